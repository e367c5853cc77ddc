-- What is heard of a response, and when it is cut.
use Rattle.std.proofs.Common.{◌≡◌, ◌≢◌, ◌⊎◌, inl, inr, ℕ, List, [], ◌∷◌, ◌++◌, length, refl, sym, ◌∙◌, subst, true, false, Bool, if◌then◌else◌}
use Rattle.std.specs.Prelude.{Option, Some, None, IfSome, nat_lt}
use Rattle.rdf_terms.specs.Lists.{IsIn}
use Rattle.httparse.specs.Grammar.{ResponseHead}
use Rattle.link_uri.specs.declared.heard.Heard.{Heard}
use Rattle.link_uri.specs.declared.heard.Heard.TheVariants.{Never, Malformed}
use Rattle.link_uri.specs.declared.heard.Reply.{Reply}
use Rattle.outer_ports.specs.declared.host.Host.{Host}
use Rattle.outer_ports.specs.Wire.{Begins, response_of, answers}
use Rattle.http_message.specs.Chunks.{BodyRead, whole_body, bad_body, long_body, part_body}
use Rattle.http_message.specs.Facts.{facts_of}
use Rattle.http_message.specs.Body.{Progress, decided, undecided, with_body}
use Rattle.http_message.specs.Reading.{Reads, Found, Finds, waiting, no_head, final_head, progress_after, head_limit}
use Rattle.fetch_lane.specs.Responses.{IsReadAs, IsPlain, IsHeardOver, heard_of}

-- the response to a request is nothing, or that of a listed host
listed : (hs : List Host) (host : List ℕ) (port : ℕ) (request : List ℕ) → (response_of hs host port request ≡ []) ⊎ ((h : Host) × IsIn hs h × (response_of hs host port request ≡ h.response))
listed [] host port request = inl refl
listed (h ∷ hs) host port request =
    let rest = response_of hs host port request in
    elim (answers h host port request) as (λ b. ((if b then h.response else rest) ≡ []) ⊎ ((x : Host) × IsIn (h ∷ hs) x × ((if b then h.response else rest) ≡ x.response))) [
      | true ↦ inr (h, inl refl, refl)
      | false ↦ elim (listed hs host port request) [ inl e ↦ inl e | inr w ↦ inr (w.0, inr w.1, w.2) ]
    ]

-- no bytes and then the end are a cut
no_end : (limit : ℕ) (heard : Heard) (is : List ResponseHead) (found : Found) → Finds is [] found → undecided (Some heard) ≡ progress_after limit [] found → ⊥
no_end limit heard [] waiting f g = cc
no_end limit heard [] no_head f g = cc
no_end limit heard [] (final_head h rest) f g = let q = f.1 in cc
no_end limit heard (i ∷ is) found f g = let q = f.1 in cc

nothing_cut : (limit : ℕ) (heard : Heard) → Reads limit [] (undecided (Some heard)) → ⊥
nothing_cut limit heard r = no_end limit heard r.interims r.found r.finds r.gives

nothing_begins : (front whole : List ℕ) → whole ≡ [] → Begins front whole → front ≡ []
nothing_begins [] whole e b = refl
nothing_begins (x ∷ xs) whole e b = let q = sym e ∙ b.1 in cc

-- a message that the connection's end delimits is all of a plain response
pub whole_heard : (limit : ℕ) (sure : Bool) (hs : List Host) (host : List ℕ) (port : ℕ) (request fed : List ℕ) (heard : Heard) → IsPlain limit sure hs
    → Begins fed (response_of hs host port request) → (response_of hs host port request ≡ fed) ⊎ (sure ≡ false) → Reads limit fed (undecided (Some heard))
    → IsReadAs limit (response_of hs host port request) (Some heard)
whole_heard limit sure hs host port request fed heard plain begun (inl e) reads = record {
  progress = undecided (Some heard);
  reads = subst (λ b. Reads limit b (undecided (Some heard))) (sym e) reads;
  gives = refl;
}
whole_heard limit sure hs host port request fed heard (inl t) begun (inr f) reads = absurd (let q = sym t ∙ f in cc)
whole_heard limit sure hs host port request fed heard (inr framed) begun (inr f) reads = elim (listed hs host port request) [
  | inl e ↦ absurd (nothing_cut limit heard (subst (λ b. Reads limit b (undecided (Some heard))) (nothing_begins fed _ e begun) reads))
  | inr w ↦ absurd (let q = framed w.0 fed (Some heard) w.1 (subst (λ b. Begins fed b) w.2 begun) reads in cc)
]

-- what is read of a response is never `Never`
no_never : (reply : Reply) (body : BodyRead) (heard : Heard) → heard_of (with_body reply body) ≡ Some heard → heard ≢ Never
no_never reply (whole_body body) heard e = λ n. cc
no_never reply bad_body heard e = λ n. cc
no_never reply long_body heard e = λ n. cc
no_never reply (part_body None) heard e = λ n. cc
no_never reply (part_body (Some body)) heard e = λ n. cc

never_after : (limit : ℕ) (bytes : List ℕ) (found : Found) (heard : Heard) → heard_of (progress_after limit bytes found) ≡ Some heard → heard ≢ Never
never_after limit bytes waiting heard e n = elim (nat_lt head_limit (length bytes)) as (λ b. heard_of (if b then decided Malformed else undecided None) ≡ Some heard → ⊥) [
  | true ↦ λ q. cc
  | false ↦ λ q. cc
] e
never_after limit bytes no_head heard e n = cc
never_after limit bytes (final_head h rest) heard e n = no_never (facts_of h).reply _ heard e n

pub read_answers : (limit : ℕ) (bytes : List ℕ) (p : Progress) (heard : Heard) → Reads limit bytes p → heard_of p ≡ Some heard → heard ≢ Never
read_answers limit bytes p heard r e = never_after limit bytes r.found heard (subst (λ (q : Progress). heard_of q ≡ Some heard) r.gives e)

told_whole : (limit : ℕ) (sure : Bool) (hosts : Option (List Host)) (host : List ℕ) (port : ℕ) (request fed : List ℕ) (heard : Heard)
    → IfSome hosts (λ hs. Begins fed (response_of hs host port request)) → IfSome hosts (λ hs. (response_of hs host port request ≡ fed) ⊎ (sure ≡ false))
    → Reads limit fed (undecided (Some heard)) → IfSome hosts (λ hs. IsPlain limit sure hs → IsReadAs limit (response_of hs host port request) (Some heard))
told_whole limit sure None host port request fed heard begun whole reads = tt
told_whole limit sure (Some hs) host port request fed heard begun whole reads = λ plain. whole_heard limit sure hs host port request fed heard plain begun whole reads

-- what the connection's end delimits is heard
pub ended_heard : (limit : ℕ) (sure : Bool) (hosts : Option (List Host)) (host : List ℕ) (port : ℕ) (request fed : List ℕ) (heard : Heard)
    → IfSome hosts (λ hs. Begins fed (response_of hs host port request)) → IfSome hosts (λ hs. (response_of hs host port request ≡ fed) ⊎ (sure ≡ false))
    → Reads limit fed (undecided (Some heard)) → IsHeardOver limit sure hosts host port request heard
ended_heard limit sure hosts host port request fed heard begun whole reads = record {
  answered = read_answers limit fed (undecided (Some heard)) heard reads refl;
  told = told_whole limit sure hosts host port request fed heard begun whole reads;
}

told_decided : (limit : ℕ) (sure : Bool) (hosts : Option (List Host)) (host : List ℕ) (port : ℕ) (request bytes : List ℕ) (heard : Heard)
    → IfSome hosts (λ hs. Begins bytes (response_of hs host port request)) → ((more : List ℕ) → Reads limit (bytes ++ more) (decided heard))
    → IfSome hosts (λ hs. IsPlain limit sure hs → IsReadAs limit (response_of hs host port request) (Some heard))
told_decided limit sure None host port request bytes heard begun reads = tt
told_decided limit sure (Some hs) host port request bytes heard begun reads = λ plain. record {
  progress = decided heard;
  reads = subst (λ b. Reads limit b (decided heard)) (sym begun.1) (reads begun.0);
  gives = refl;
}

-- what the bytes decide is heard
pub decided_heard : (limit : ℕ) (sure : Bool) (hosts : Option (List Host)) (host : List ℕ) (port : ℕ) (request bytes : List ℕ) (heard : Heard)
    → IfSome hosts (λ hs. Begins bytes (response_of hs host port request)) → ((more : List ℕ) → Reads limit (bytes ++ more) (decided heard))
    → IsHeardOver limit sure hosts host port request heard
decided_heard limit sure hosts host port request bytes heard begun reads = record {
  answered = read_answers limit (bytes ++ []) (decided heard) heard (reads []) refl;
  told = told_decided limit sure hosts host port request bytes heard begun reads;
}
