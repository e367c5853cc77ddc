-- Chunks that are spelled by lines and data are read as their data.
use Rattle.std.proofs.Common.{◌≡◌, ℕ, ◌+◌, ◌-◌, ◌≤◌, true, false, List, [], ◌∷◌, ◌++◌, length, refl, sym, ap, ◌∙◌, arith, append_assoc, append-nil, length-append}
use Rattle.std.specs.Prelude.{Some, nat_le, ◌==◌}
use Rattle.std.proofs.lemmas.Bool.Decides.{nat_tests}
use Rattle.http_message.specs.Chunks.{whole_body, chunked, chunked_at, in_line, after_data, data_place, after_line, line_step, size_of}
use Rattle.http_message.specs.Spelled.{NoLf, IsLine, Chunk, IsChunk, data_of, text_of, spelled, EachChunk}
use Rattle.http_message.proofs.BodyLemmas.{data_more}
use Rattle.http_message.proofs.LineStateLemmas.{chunked-line}

line_run : (front acc body more : List ℕ) (limit : ℕ) → NoLf front → length acc + length front + 1 ≤ 1024
    → chunked limit (in_line acc) body (front ++ 10 ∷ more) ≡ chunked_at limit (after_line (size_of (acc ++ (front ++ 10 ∷ [])))) body more
unfolding chunked
line_run [] acc body more limit ok short = chunked-line limit acc 10 body more
line_run (b ∷ bs) acc body more limit ok short =
    let early : nat_le 1024 (length acc + 1) ≡ false = grind (arith, nat_tests) in
    let later = line_run bs (acc ++ b ∷ []) body more limit ok.1 (simp length-append (omega arith)) in
    let step : line_step acc b ≡ Some (in_line (acc ++ b ∷ [])) = rw (ok.0, early) refl in
    chunked-line limit acc b body (bs ++ 10 ∷ more) ∙ ap (λ o. chunked_at limit o body (bs ++ 10 ∷ more)) step ∙ (later ∙ ap (λ xs. chunked_at limit (after_line (size_of xs)) body more) (append_assoc acc (b ∷ []) (bs ++ 10 ∷ [])))

line_reads : (line body more : List ℕ) (limit n : ℕ) → IsLine line n → chunked limit (in_line []) body (line ++ more) ≡ chunked_at limit (after_line (Some n)) body more
line_reads line body more limit n is =
    let long : length line ≡ length is.front + 1 = ap length is.ends ∙ simp length-append refl in
    let text : line ++ more ≡ is.front ++ 10 ∷ more = rw (is.ends, append_assoc) refl in
    ap (chunked limit (in_line []) body) text
    ∙ line_run is.front [] body more limit is.no_lf (omega (arith, long, is.short))
    ∙ ap (λ xs. chunked_at limit (after_line (size_of xs)) body more) (sym is.ends)
    ∙ ap (λ o. chunked_at limit (after_line o) body more) is.size

ends_chunk : (limit : ℕ) (body more : List ℕ) → chunked limit after_data body (13 ∷ 10 ∷ more) ≡ chunked limit (in_line []) body more
unfolding chunked
ends_chunk limit body more = refl

chunk_reads : (c : Chunk) (limit : ℕ) (body more : List ℕ) → IsChunk c → length body + length c.bytes ≤ limit
    → chunked limit (in_line []) body (text_of c ++ more) ≡ chunked limit (in_line []) (body ++ c.bytes) more
chunk_reads c limit body more is room =
    let n = length c.bytes in
    let some : (n == 0) ≡ false = let h = is.some in grind (arith, nat_tests) in
    let none : (n - n == 0) ≡ true = let h : n - n ≡ 0 = omega arith in grind (arith, nat_tests) in
    let text : text_of c ++ more ≡ c.line ++ (c.bytes ++ (13 ∷ 10 ∷ more)) = simp append_assoc in
    let place : after_line (Some n) ≡ Some (data_place n) = rw some refl in
    let done : data_place (n - n) ≡ after_data = rw none refl in
    ap (chunked limit (in_line []) body) text
    ∙ line_reads c.line body (c.bytes ++ (13 ∷ 10 ∷ more)) limit n is.line
    ∙ ap (λ o. chunked_at limit o body (c.bytes ++ (13 ∷ 10 ∷ more))) place
    ∙ data_more c.bytes limit n body (13 ∷ 10 ∷ more) room (omega arith)
    ∙ ap (λ p. chunked limit p (body ++ c.bytes) (13 ∷ 10 ∷ more)) done
    ∙ ends_chunk limit (body ++ c.bytes) more

last_reads : (last body more : List ℕ) (limit : ℕ) → IsLine last 0 → chunked limit (in_line []) body (last ++ (13 ∷ 10 ∷ more)) ≡ whole_body body
unfolding chunked
last_reads last body more limit is = line_reads last body (13 ∷ 10 ∷ more) limit 0 is ∙ refl

-- chunks, a last line of size 0 and an empty line are read as the data of the chunks, whatever follows
pub spelled_reads : (cs : List Chunk) (last body more : List ℕ) (limit : ℕ) → EachChunk cs → IsLine last 0 → length body + length (data_of cs) ≤ limit
    → chunked limit (in_line []) body (spelled cs last ++ more) ≡ whole_body (body ++ data_of cs)
spelled_reads [] last body more limit all is room = ap (chunked limit (in_line []) body) (simp append_assoc) ∙ last_reads last body more limit is ∙ rw append-nil refl
spelled_reads (c ∷ cs) last body more limit all is room =
    let long = length-append c.bytes (data_of cs) in
    let text : spelled (c ∷ cs) last ++ more ≡ text_of c ++ (spelled cs last ++ more) = simp append_assoc in
    ap (chunked limit (in_line []) body) text
    ∙ chunk_reads c limit body (spelled cs last ++ more) all.0 (omega (arith, long))
    ∙ spelled_reads cs last (body ++ c.bytes) more limit all.1 is (simp length-append (omega (arith, long)))
    ∙ ap whole_body (append_assoc body c.bytes (data_of cs))
