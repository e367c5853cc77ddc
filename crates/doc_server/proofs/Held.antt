-- What is served for the bytes that were read is served for the first that were held.
use Rattle.std.proofs.Common.{◌≡◌, ℕ, ◌-◌, ◌+◌, ◌≤◌, List, [], ◌∷◌, ◌++◌, length, take, drop, refl, sym, ap, ◌∙◌, subst, arith, append-nil, length-append, length-take-le, take_all, inl, inr, ⊎_elim}
use Rattle.std.specs.Prelude.{◌⊎◌, Option, Some, None}
use Rattle.std.proofs.Math.Seq.{take-append-add}
use Rattle.std.proofs.lemmas.List.{take-append-drop}
use Rattle.std.specs.Io.KnownBytes.{prepend_known, append_known}
use Rattle.httparse.specs.Grammar.{RequestHead, ReadsRequest}
use Rattle.httparse.proofs.GrammarLemmas.{ReadsRequest-append}
use Rattle.outer_ports.specs.Wire.{Begins}
use Rattle.site_core.specs.Serving.{BeginsWith, IsServed}
use Rattle.site_core.specs.Text.{Entry}
use Rattle.doc_server.specs.declared.head_end.Place.TheVariants.{Blank, Ended}
use Rattle.doc_server.specs.declared.serving.Served.{Served}
use Rattle.doc_server.specs.declared.serving.Served.TheVariants.{Done, ReadFault, WriteFault, Memory}
use Rattle.doc_server.specs.HeadEnd.{place_after}
use Rattle.outer_ports.proofs.KnownBytesLemmas.{prepend_known-more}
use Rattle.doc_server.specs.Writing.{BeginsResponse, Connection, IsServedBy, CountsServed, CountsWritten, IsEnough, Writes, WritesText}
use Rattle.doc_server.proofs.HeadEnds.{begins_within}

begins_more : (bytes more : List ℕ) (head : Option RequestHead) → place_after Blank bytes ≡ Ended → BeginsWith bytes head → BeginsWith (bytes ++ more) head
begins_more bytes more None ended none = λ h rest reads fits. let w = begins_within bytes more h rest ended reads in none h w.0 w.1 fits
begins_more bytes more (Some h) ended x = (x.0 ++ more, ReadsRequest-append bytes h x.0 more x.1, x.2)

served_more : (site : List Entry) (bytes more response : List ℕ) → place_after Blank bytes ≡ Ended → IsServed site bytes response → IsServed site (bytes ++ more) response
served_more site bytes more response ended x = record { head = x.head; begins = begins_more bytes more x.head ended x.begins; text = x.text }

take_over : (n : ℕ) (xs ys : List ℕ) → length xs ≤ n → take n (xs ++ ys) ≡ xs ++ take (n - length xs) ys
take_over n xs ys h =
    let sum : n ≡ length xs + (n - length xs) = omega arith in
    ap (λ k. take k (xs ++ ys)) sum ∙ take-append-add xs ys (n - length xs)

take_none : (n : ℕ) (xs : List ℕ) → n ≡ 0 → take n xs ≡ []
take_none n xs e = ap (λ k. take k xs) e

held_more : (site : List Entry) (bytes left response : List ℕ) → length bytes ≤ 65536 → IsEnough bytes (Some left) → IsServed site bytes response
    → IsServed site (take 65536 (bytes ++ left)) response
held_more site bytes left response most enough served =
    let front = take_over 65536 bytes left most in
    let rest = take (65536 - length bytes) left in
    let same : rest ≡ [] → IsServed site (take 65536 (bytes ++ left)) response =
    λ none. subst (λ r. IsServed site r response) (sym (front ∙ ap (λ r. bytes ++ r) none ∙ append-nil bytes)) served in
    ⊎_elim
    (λ ended. subst (λ r. IsServed site r response) (sym front) (served_more site bytes rest response ended served))
    (λ other. ⊎_elim
    (λ at_end. same (ap (take (65536 - length bytes)) at_end ∙ take_all (65536 - length bytes) [] (omega arith)))
    (λ full. same (take_none (65536 - length bytes) left (omega (arith, full))))
    other)
    enough

-- what was read of what was held is its front
pub served_held : (site : List Entry) (bytes held response : List ℕ) (left : Option (List ℕ)) → Some held ≡ prepend_known bytes left
    → length bytes ≤ 65536 → IsEnough bytes left → IsServed site bytes response → IsServed site (take 65536 held) response
served_held site bytes held response None e most enough served = absurd (cc e)
served_held site bytes held response (Some left) e most enough served =
    let whole : held ≡ bytes ++ left = cc e in
    subst (λ l. IsServed site (take 65536 l) response) (sym whole) (held_more site bytes left response most enough served)

begins_held : (site : List Entry) (bytes held part : List ℕ) → ((response : List ℕ) → IsServed site bytes response → IsServed site held response)
    → BeginsResponse site bytes part → BeginsResponse site held part
begins_held site bytes held part more b = ⊎_elim (λ none. inl none) (λ x. inr (x.0, more x.0 x.1, x.2)) b

writes_more : (site : List Entry) (bytes held : List ℕ) (old new : Option (List ℕ)) (served : Served)
    → ((response : List ℕ) → IsServed site bytes response → IsServed site held response)
    → Writes site bytes old new served → Writes site held old new served
writes_more site bytes held old new Done more w = (w.0, more w.0 w.1, w.2)
writes_more site bytes held old new ReadFault more w = w
writes_more site bytes held old new WriteFault more w = (w.0, begins_held site bytes held w.0 more w.1, w.2)
writes_more site bytes held old new Memory more w = (w.0, begins_held site bytes held w.0 more w.1, w.2)

-- what is written for the bytes that were read is written for the first that were held
pub writes_held : (site : List Entry) (bytes held : List ℕ) (left old new : Option (List ℕ)) (served : Served) → Some held ≡ prepend_known bytes left
    → length bytes ≤ 65536 → IsEnough bytes left → Writes site bytes old new served → Writes site (take 65536 held) old new served
writes_held site bytes held left old new served e most enough w =
    writes_more site bytes (take 65536 held) old new served (λ response x. served_held site bytes held response left e most enough x) w

-- nothing more is nothing written
pub adds_nothing : (old new : Option (List ℕ)) → new ≡ old → new ≡ append_known old []
adds_nothing None new e = e
adds_nothing (Some xs) new e = e ∙ ap Some (sym (append-nil xs))

-- the text of a response, or a beginning of it, is what is to be written
pub writes_response : (site : List Entry) (request response : List ℕ) (old new : Option (List ℕ)) (served : Served) → IsServed site request response
    → WritesText response old new served → Writes site request old new served
writes_response site request response old new Done x w = (response, x, w)
writes_response site request response old new ReadFault x w = absurd w
writes_response site request response old new WriteFault x w = (w.0, inr (response, x, w.1), w.2)
writes_response site request response old new Memory x w = (w.0, inr (response, x, w.1), w.2)

-- where the faults of reading stand still, those of writing are all
pub counts_written : (reads reads' writes writes' : ℕ) (served : Served) → reads' ≡ reads → CountsWritten writes writes' served → CountsServed reads reads' writes writes' served
counts_written reads reads' writes writes' Done e c = (e, c)
counts_written reads reads' writes writes' ReadFault e c = absurd c
counts_written reads reads' writes writes' WriteFault e c = (e, c)
counts_written reads reads' writes writes' Memory e c = (e, c)

-- the first bytes of a text were written
pub front_of : (text : List ℕ) (old new : Option (List ℕ)) → ((n : ℕ) × (n ≤ length text) × (new ≡ append_known old (take n text)))
    → (part : List ℕ) × Begins part text × (new ≡ append_known old part)
front_of text old new w = (take w.0 text, (drop w.0 text, sym (take-append-drop w.0 text)), w.2)

-- one more read within the limit
pub read_more : (old mid new : Option (List ℕ)) (bytes buf : List ℕ) (n : ℕ) → old ≡ prepend_known bytes mid → mid ≡ prepend_known (take n buf) new
    → n ≤ length buf → length bytes + length buf ≤ 65536 → (xs : List ℕ) × (length xs ≤ 65536) × (old ≡ prepend_known xs new)
read_more old mid new bytes buf n e f within fits = (
  bytes ++ take n buf,
  omega (arith, length-append bytes (take n buf), length-take-le n buf within, within, fits),
  prepend_known-more old mid new bytes (take n buf) e f,
)

unwritten_of : (site : List Entry) (request : List ℕ) (old new : Option (List ℕ)) (served : Served) → Writes site request old new served → served ≡ ReadFault → new ≡ old
unwritten_of site request old new Done w e = absurd cc
unwritten_of site request old new ReadFault w e = w
unwritten_of site request old new WriteFault w e = absurd cc
unwritten_of site request old new Memory w e = absurd cc

-- a request was read from a connection, and answered
pub served_one : (site : List Entry) (text bytes : List ℕ) (old mid new : Connection) (served : Served) (a b d e : Option (List ℕ) × ℕ)
    → text ≡ bytes → old.left ≡ prepend_known bytes mid.left → length bytes ≤ 65536 → IsEnough bytes mid.left → mid.read_faults ≡ old.read_faults
    → a ≡ (old.content, old.write_faults) → b ≡ (mid.content, mid.write_faults) → b ≡ a
    → Writes site text mid.content new.content served → CountsWritten mid.write_faults new.write_faults served
    → d ≡ (mid.left, mid.read_faults) → e ≡ (new.left, new.read_faults) → e ≡ d → IsServedBy site old new served
served_one site text bytes old mid new served a b d e same_text read most enough calm at_old at_mid kept writes counts left_mid left_new same =
    let first : (p : Option (List ℕ) × ℕ) → Option (List ℕ) = λ p. p.0 in
    let second : (p : Option (List ℕ) × ℕ) → ℕ = λ p. p.1 in
    let content : mid.content ≡ old.content = ap first (sym at_mid ∙ kept ∙ at_old) in
    let faults : mid.write_faults ≡ old.write_faults = ap second (sym at_mid ∙ kept ∙ at_old) in
    let reads : new.read_faults ≡ mid.read_faults = ap second (sym left_new ∙ same ∙ left_mid) in
    let written : Writes site bytes old.content new.content served = subst (λ c. Writes site bytes c new.content served) content (subst (λ t. Writes site t mid.content new.content served) same_text writes) in
    record {
      written = λ held told. writes_held site bytes held mid.left old.content new.content served (sym told ∙ read) most enough written;
      unwritten = unwritten_of site bytes old.content new.content served written;
      counts = counts_written old.read_faults new.read_faults old.write_faults new.write_faults served (reads ∙ calm) (subst (λ w. CountsWritten w new.write_faults served) faults counts);
    }
