-- A printed final head and what follows it are read as it says.
use Rattle.std.proofs.Common.{◌≡◌, ℕ, ◌-◌, ◌≤◌, false, List, [], ◌∷◌, ◌++◌, length, take, drop, refl, sym, ap, ◌∙◌, subst}
use Rattle.std.proofs.Math.Seq.{drop-append_seam, take-append_seam}
use Rattle.std.proofs.lemmas.List.{take-append-drop}
use Rattle.httparse.specs.Grammar as grammar
use Rattle.httparse.specs.Grammar.{ResponseHead, print_response}
use Rattle.http_message.specs.Heads.{IsHead}
use Rattle.http_message.specs.Facts.{facts_of, is_interim}
use Rattle.http_message.specs.Lines.{skip_from}
use Rattle.http_message.specs.Body.{message_from}
use Rattle.http_message.specs.Reading.{final_head, Finds, Reads}
use Rattle.http_message.proofs.Printed.{printed_end}
use Rattle.http_message.proofs.ReadingLemmas.{take_over, drop_over}

starts : (h : ResponseHead) → h.blank ≡ [] → (rest : List ℕ) × (print_response h ≡ 72 ∷ rest)
unfolding grammar.print_response
starts h none = (drop 1 (print_response h), rw none refl)

not_skipped : (text rest more : List ℕ) → text ≡ 72 ∷ rest → skip_from false (text ++ more) ≡ text ++ more
not_skipped text rest more q = rw q refl

-- a final head without empty lines before it, and the bytes after it
pub reads_printed : (limit : ℕ) (h : ResponseHead) (body : List ℕ) → IsHead (print_response h) h → h.blank ≡ [] → is_interim h ≡ false → length (print_response h) ≤ 65536
    → Reads limit (print_response h ++ body) (message_from (facts_of h) limit body)
reads_printed limit h body is none final short =
    let text = print_response h in
    let rest = take (65536 - length text) body in
    let found = final_head h rest in
    let start = starts h none in
    let is_it : IsHead (take (length text) (text ++ rest)) h = rw take-append_seam is in
    let here : Finds [] (text ++ rest) found = (length text, printed_end h rest is.reads.0 none, is_it, final, sym (drop-append_seam text rest)) in
    let front : text ++ rest ≡ skip_from false (take 65536 (text ++ body)) =
    sym (ap (skip_from false) (take_over 65536 text body short) ∙ not_skipped text start.0 rest start.1) in
    let left : rest ++ drop 65536 (text ++ body) ≡ body = ap (λ ys. rest ++ ys) (drop_over 65536 text body short) ∙ take-append-drop (65536 - length text) body in
    record {
      interims = [];
      found = found;
      finds = subst (λ ys. Finds [] ys found) front here;
      gives = sym (ap (message_from (facts_of h) limit) left);
    }
