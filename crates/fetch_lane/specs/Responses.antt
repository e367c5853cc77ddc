-- What the response of a host to a request is read as, where the connection ends after it (RFC 9112, sections 6.3 and 8).
use Rattle.std.specs.Prelude.{ℕ, ◌≡◌, ◌≢◌, ◌⊎◌, List, Option, Some, None, IfSome, Bool, true}
use Rattle.rdf_terms.specs.Lists.{IsIn}
use Rattle.link_uri.specs.declared.heard.Heard.{Heard}
use Rattle.link_uri.specs.declared.heard.Heard.TheVariants.{Never}
use Rattle.outer_ports.specs.declared.host.Host.{Host}
use Rattle.outer_ports.specs.Wire.{Begins, response_of}
use Rattle.http_message.specs.Body.{Progress, decided, undecided}
use Rattle.http_message.specs.Reading.{Reads}

-- what is heard of bytes after which the connection ends; nothing where they are cut
abbrev pub heard_of : Progress → Option Heard
heard_of (decided heard) = Some heard
heard_of (undecided ended) = ended

-- these bytes, and then the end, are read as this, under a limit of the body
pub record IsReadAs (limit : ℕ) (bytes : List ℕ) (heard : Option Heard) : Type 0 where
  pub progress : Progress
  pub reads : Reads limit bytes progress
  pub gives : heard_of progress ≡ heard

-- each cut of a response can be seen: no beginning of one is a message that only the connection's end delimits
abbrev pub AreFramed : ℕ → List Host → Type 0
AreFramed limit hosts = (h : Host) (front : List ℕ) (ended : Option Heard) →
    IsIn hosts h → Begins front h.response → Reads limit front (undecided ended) → ended ≡ None

-- no response can come short without a sign: the wire is sure, or each cut can be seen
abbrev pub IsPlain : ℕ → Bool → List Host → Type 0
IsPlain limit sure hosts = (sure ≡ true) ⊎ AreFramed limit hosts

-- where plain hosts are told, their response is read as this; it is never `Never`
pub record IsHeardOver (limit : ℕ) (sure : Bool) (hosts : Option (List Host)) (host : List ℕ) (port : ℕ) (request : List ℕ) (heard : Heard) : Type 0 where
  pub answered : heard ≢ Never
  pub told : IfSome hosts (λ hs. IsPlain limit sure hs → IsReadAs limit (response_of hs host port request) (Some heard))

-- where hosts are told, their response is cut
abbrev pub IsCutOver : ℕ → Option (List Host) → List ℕ → ℕ → List ℕ → Type 0
IsCutOver limit hosts host port request = IfSome hosts (λ hs. IsReadAs limit (response_of hs host port request) None)
