-- Each entry of a generated site may stand in a site, and has few bytes there.
use Rattle.std.proofs.Common.{◌≡◌, ℕ, zero, suc, ◌+◌, ◌*◌, ◌%◌, ◌<◌, ◌≤◌, true, List, [], ◌∷◌, ◌++◌, length, All, decimal, refl, sym, ◌∙◌, subst, arith, length-append}
use Rattle.std.specs.Prelude.{codes, ◌==◌, nat_lt}
use Rattle.std.specs.List.{flat_map}
use Rattle.std.proofs.lemmas.Bool.{cond_both}
use Rattle.std.proofs.lemmas.Bool.Decides.{nat_tests}
use Rattle.std.proofs.lemmas.Fmt.{length-decimal-le}
use Rattle.std.proofs.lemmas.Grind.{flat_map-append}
use Rattle.std.proofs.lemmas.List.Elements.{All-nil, All-cons, All-head, All-tail, All-push}
use Rattle.std.proofs.lemmas.Nat.{mod_below}
use Rattle.link_uri.specs.declared.heard.Reply.{Reply}
use Rattle.site_core.specs.Fields.{is_site_link}
use Rattle.site_core.specs.Generated.{below, between, document, document_link, document_reply, documents, mark_line, mark_triple, next_line, next_numbers, next_triple, ntriples_text, numbered_reply, prefix_line, turtle_text, vocabulary}
use Rattle.site_core.specs.Text.{Entry, block_text, body_text, ended, head_text, is_reply, site_text}
use Rattle.site_core.proofs.GeneratedLinks.{document_site_link, vocabulary_site_link}

-- ---- texts of documents

-- no more than n bytes
abbrev HasUpTo : ℕ → List ℕ → Type 0
HasUpTo n bytes = length bytes ≤ n

both : (m n : ℕ) (xs ys : List ℕ) → HasUpTo m xs → HasUpTo n ys → HasUpTo (m + n) (xs ++ ys)
both m n xs ys first second = omega (arith, length-append xs ys)

few_digits : (n : ℕ) → n < 10000 → HasUpTo 4 (decimal n)
few_digits n small = length-decimal-le 4 n (omega arith) (omega arith) (omega arith)

between_few : (k m : ℕ) (front back : List ℕ) (n : ℕ) → HasUpTo k front → HasUpTo m back → n < 10000 → HasUpTo (k + (4 + m)) (between front n back)
unfolding between
between_few k m front back n first second small = both k (4 + m) front (decimal n ++ back) first (both 4 m (decimal n) back (few_digits n small) second)

next_triple_few : (i j : ℕ) → i < 10000 → j < 10000 → HasUpTo 100 (next_triple i j)
next_triple_few i j small_i small_j =
    let first = between_few 19 31 (codes "<http://self.test/d") (codes "#it> <http://self.test/v#next> ") i (omega arith) (omega arith) small_i in
    let second = between_few 19 8 (codes "<http://self.test/d") (codes "#it> .\n") j (omega arith) (omega arith) small_j in
    let all = both 54 31 (between (codes "<http://self.test/d") i (codes "#it> <http://self.test/v#next> ")) (between (codes "<http://self.test/d") j (codes "#it> .\n")) first second in
    omega arith

mark_triple_few : (i : ℕ) → i < 10000 → HasUpTo 150 (mark_triple i)
mark_triple_few i small =
    let first = between_few 19 31 (codes "<http://self.test/d") (codes "#it> <http://self.test/v#mark> ") i (omega arith) (omega arith) small in
    let second = between_few 1 50 (codes "\"") (codes "\"^^<http://www.w3.org/2001/XMLSchema#integer> .\n") i (omega arith) (omega arith) small in
    let all = both 54 55 (between (codes "<http://self.test/d") i (codes "#it> <http://self.test/v#mark> ")) (between (codes "\"") i (codes "\"^^<http://www.w3.org/2001/XMLSchema#integer> .\n")) first second in
    omega arith

next_line_few : (j : ℕ) → j < 10000 → HasUpTo 100 (next_line j)
next_line_few j small =
    let all = between_few 15 8 (codes "<#it> v:next <d") (codes "#it> .\n") j (omega arith) (omega arith) small in
    omega arith

mark_line_few : (i : ℕ) → i < 10000 → HasUpTo 100 (mark_line i)
mark_line_few i small =
    let all = between_few 13 3 (codes "<#it> v:mark ") (codes " .\n") i (omega arith) (omega arith) small in
    omega arith

-- ---- up to three numbers a document

module _ (n : ℕ) (text : ℕ → List ℕ) (few : (j : ℕ) → j < n → HasUpTo 100 (text j)) where
  below_few : (j : ℕ) → HasUpTo 100 (flat_map text (below n j))
  below_few j = cond_both (nat_lt j n) (j ∷ []) [] (λ (js : List ℕ). HasUpTo 100 (flat_map text js))
      (λ inside. let h = few j (grind (arith, nat_tests)) in omega (arith, length-append (text j) [])) (λ _. omega arith)

  numbers_few : (step i : ℕ) → 0 < n → HasUpTo 300 (flat_map text (next_numbers n step i))
  numbers_few step i some =
      let a = below n (2 * i + 1) in
      let b = below n (2 * i + 2) in
      let c = (i * (step % n) + 1) % n in
      let last : HasUpTo 100 (flat_map text (c ∷ [])) = (let h = few c (mod_below (i * (step % n) + 1) n some) in omega (arith, length-append (text c) [])) in
      let later : HasUpTo 200 (flat_map text (b ++ (c ∷ []))) = subst (HasUpTo 200) (sym (flat_map-append text b (c ∷ []))) (both 100 100 (flat_map text b) (flat_map text (c ∷ [])) (below_few (2 * i + 2)) last) in
      subst (HasUpTo 300) (sym (flat_map-append text a (b ++ (c ∷ [])))) (both 100 200 (flat_map text a) (flat_map text (b ++ (c ∷ []))) (below_few (2 * i + 1)) later)

ntriples_few : (n step i : ℕ) → 0 < n → n ≤ 2000 → i < n → HasUpTo 500 (ntriples_text i (next_numbers n step i))
ntriples_few n step i some few inside =
    let nexts = numbers_few n (next_triple i) (λ j below. next_triple_few i j (omega arith) (omega arith)) step i some in
    let all = both 300 150 (flat_map (next_triple i) (next_numbers n step i)) (mark_triple i) nexts (mark_triple_few i (omega arith)) in
    omega arith

turtle_few : (n step i : ℕ) → 0 < n → n ≤ 2000 → i < n → HasUpTo 500 (turtle_text i (next_numbers n step i))
turtle_few n step i some few inside =
    let nexts = numbers_few n next_line (λ j below. next_line_few j (omega arith)) step i some in
    let lines = both 300 100 (flat_map next_line (next_numbers n step i)) (mark_line i) nexts (mark_line_few i (omega arith)) in
    let all = both 40 400 prefix_line (flat_map next_line (next_numbers n step i) ++ mark_line i) (omega arith) lines in
    omega arith

-- ---- entries

-- the entry may stand in a site, and takes up to 1,000 bytes there
pub record Fits (e : Entry) : Type 0 where
  pub link : is_site_link e.0 ≡ true
  pub reply : is_reply e.1 ≡ true
  pub few : length (block_text e) ≤ 1000

-- a reply with a document that has few bytes
abbrev IsSmall : Reply → Type 0
IsSmall reply = (is_reply reply ≡ true) × (length (head_text reply) ≤ 50) × (length reply.body ≤ 500)

head_few : (rest : List ℕ) → HasUpTo 38 rest → HasUpTo 50 (ended (codes "status " ++ decimal 200) ++ rest)
head_few rest few =
    let digits = few_digits 200 (omega arith) in
    let line = both 11 1 (codes "status " ++ decimal 200) (10 ∷ []) (both 7 4 (codes "status ") (decimal 200) (omega arith) digits) (omega arith) in
    both 12 38 (ended (codes "status " ++ decimal 200)) rest line few

ntriples_reply : (body : List ℕ) → length body ≤ 500 → IsSmall (document_reply (codes "application/n-triples") body)
ntriples_reply body few = (refl, head_few (codes "type application/n-triples\n") (omega arith), few)

turtle_reply : (body : List ℕ) → length body ≤ 500 → IsSmall (document_reply (codes "text/turtle") body)
turtle_reply body few = (refl, head_few (codes "type text/turtle\n") (omega arith), few)

body_few : (body : List ℕ) → length body ≤ 500 → HasUpTo 511 (body_text body)
body_few body few =
    let digits = few_digits (length body) (omega arith) in
    let line = both 9 1 (codes "body " ++ decimal (length body)) (10 ∷ []) (both 5 4 (codes "body ") (decimal (length body)) (omega arith) digits) (omega arith) in
    both 10 501 (ended (codes "body " ++ decimal (length body))) (ended body) line (both 500 1 body (10 ∷ []) few (omega arith))

entry_fits : (link : List ℕ) (reply : Reply) → is_site_link link ≡ true → length link ≤ 100 → IsSmall reply → Fits (link, reply)
entry_fits link reply valid short small = record {
  link = valid;
  reply = small.0;
  few = (
      let line = both 105 1 (codes "link " ++ link) (10 ∷ []) (both 5 100 (codes "link ") link (omega arith) short) (omega arith) in
      let rest = both 50 511 (head_text reply) (body_text reply.body) small.1 (body_few reply.body small.2) in
      let all = both 106 561 (ended (codes "link " ++ link)) (head_text reply ++ body_text reply.body) line rest in
      omega arith);
}

vocabulary_fits : Fits vocabulary
vocabulary_fits = entry_fits vocabulary.0 vocabulary.1 vocabulary_site_link (omega arith) (turtle_reply (codes "<#next> <#label> \"next\" .\n") (omega arith))

document_fits : (n step i : ℕ) → 0 < n → n ≤ 2000 → i < n → Fits (document n step i)
document_fits n step i some few inside =
    let numbers = next_numbers n step i in
    let digits = few_digits i (omega arith) in
    entry_fits (document_link i) (numbered_reply i numbers) (document_site_link i (omega arith)) (omega (arith, length-append (codes "http://self.test/d") (decimal i)))
    (cond_both (i % 2 == 0) (document_reply (codes "application/n-triples") (ntriples_text i numbers)) (document_reply (codes "text/turtle") (turtle_text i numbers)) IsSmall
    (λ even. ntriples_reply (ntriples_text i numbers) (ntriples_few n step i some few inside)) (λ odd. turtle_reply (turtle_text i numbers) (turtle_few n step i some few inside)))

documents_fit : (n step k : ℕ) → 0 < n → n ≤ 2000 → k ≤ n → All Fits (documents n step k)
documents_fit n step zero some few within = All-nil Fits
documents_fit n step (suc k) some few within =
    All-push Fits (documents n step k) (document n step k) (documents_fit n step k some few (omega arith)) (document_fits n step k some few (omega arith))

pub entries_fit : (n step : ℕ) → 0 < n → n ≤ 2000 → All Fits (vocabulary ∷ documents n step n)
entries_fit n step some few = All-cons Fits vocabulary (documents n step n) vocabulary_fits (documents_fit n step n some few (omega arith))

documents_count : (n step k : ℕ) → length (documents n step k) ≡ k
documents_count n step zero = refl
documents_count n step (suc k) = length-append (documents n step k) (document n step k ∷ []) ∙ (let h = documents_count n step k in omega arith)

-- ---- the whole text

blocks_few : (es : List Entry) → All Fits es → length (flat_map block_text es) ≤ 1000 * length es
blocks_few [] all = omega arith
blocks_few (e ∷ es) all =
    let first = (All-head Fits e es all).few in
    let later = blocks_few es (All-tail Fits e es all) in
    omega (arith, length-append (block_text e) (flat_map block_text es))

pub site_few : (es : List Entry) → All Fits es → length es ≤ 2001 → length (site_text es) ≤ 67108864
site_few es all few =
    let blocks = blocks_few es all in
    omega (arith, length-append (ended (codes "site 1")) (flat_map block_text es ++ ended (codes "end")), length-append (flat_map block_text es) (ended (codes "end")))

pub entries_count : (n step : ℕ) → length (vocabulary ∷ documents n step n) ≡ n + 1
entries_count n step = let h = documents_count n step n in omega arith
