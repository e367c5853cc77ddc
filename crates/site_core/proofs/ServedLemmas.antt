-- A request has one response, and an answer to its parts is it.
use Rattle.std.proofs.Common.{◌≡◌, ℕ, ◌≤◌, List, length, refl, ap, sym, ◌∙◌}
use Rattle.std.specs.Prelude.{Option, Some, None, Result, Ok, Err, IfOk}
use Rattle.httparse.specs.Grammar.{RequestHead, ReadsRequest}
use Rattle.httparse.proofs.GrammarLemmas.{request_unique}
use Rattle.rdf_terms.specs.declared.memory.Memory.{Memory}
use Rattle.site_core.specs.Text.{Entry}
use Rattle.site_core.specs.Serving.{BeginsWith, IsServed, max_fields, served}

pub served_by : (site : List Entry) (request : List ℕ) (h : RequestHead) (rest : List ℕ) (r : Result (List ℕ) Memory)
    → ReadsRequest request h rest → length h.fields ≤ max_fields → IfOk r (λ text. text ≡ served site (Some h)) → IfOk r (IsServed site request)
served_by site request h rest (Ok text) reads fits e = record { head = Some h; begins = (rest, reads, fits); text = e }
served_by site request h rest (Err m) reads fits e = tt

one_head : (request : List ℕ) (a b : Option RequestHead) → BeginsWith request a → BeginsWith request b → a ≡ b
one_head request None None x y = refl
one_head request None (Some k) x y = absurd (x k y.0 y.1 y.2)
one_head request (Some h) None x y = absurd (y h x.0 x.1 x.2)
one_head request (Some h) (Some k) x y = ap Some (request_unique request h k x.0 y.0 x.1 y.1).0

pub served_once : (site : List Entry) (request a b : List ℕ) → IsServed site request a → IsServed site request b → a ≡ b
served_once site request a b x y = x.text ∙ ap (served site) (one_head request x.head y.head x.begins y.begins) ∙ sym y.text
