-- Sites that two numbers stand for: one document for each number below the first, with links to two
-- later ones and, by the second, to one more (docs/FORMATS.md, "Generated site").
use Rattle.std.specs.Prelude.{◌≡◌, ◌==◌, ◌+◌, ◌*◌, ◌%◌, ℕ, zero, suc, List, [], ◌∷◌, ◌++◌, decimal, codes, true, nat_lt, Some, None, if◌then◌else◌}
use Rattle.std.specs.List.{flat_map}
use Rattle.std.specs.List.Sorted.{IsPermutation}
use Rattle.std.specs.Cmp.Lexicographic.{slice_cmp}
use Rattle.std.specs.Ordering.{nat_cmp}
use Rattle.std.specs.declared.cmp.Ordering.{Ordering}
use Rattle.link_uri.specs.declared.heard.Reply.{Reply}
use Rattle.site_core.specs.Text.{Entry, is_site_from}

-- ---- which documents a document names

-- the number, where a document has it
abbrev pub below : ℕ → ℕ → List ℕ
below n j = if nat_lt j n then j ∷ [] else []

-- the numbers that document i names, in this order
abbrev pub next_numbers : ℕ → ℕ → ℕ → List ℕ
next_numbers n step i = below n (2 * i + 1) ++ (below n (2 * i + 2) ++ ((i * (step % n) + 1) % n ∷ []))

-- ---- the texts of documents

-- a number between two texts
unfoldable pub between : List ℕ → ℕ → List ℕ → List ℕ
between front n back = front ++ (decimal n ++ back)

-- in N-Triples: document i has document j next, and the mark i
abbrev pub next_triple : ℕ → ℕ → List ℕ
next_triple i j = between (codes "<http://self.test/d") i (codes "#it> <http://self.test/v#next> ") ++ between (codes "<http://self.test/d") j (codes "#it> .\n")

abbrev pub mark_triple : ℕ → List ℕ
mark_triple i = between (codes "<http://self.test/d") i (codes "#it> <http://self.test/v#mark> ") ++ between (codes "\"") i (codes "\"^^<http://www.w3.org/2001/XMLSchema#integer> .\n")

abbrev pub ntriples_text : ℕ → List ℕ → List ℕ
ntriples_text i numbers = flat_map (next_triple i) numbers ++ mark_triple i

-- the same in Turtle
abbrev pub prefix_line : List ℕ
prefix_line = codes "@prefix v: <http://self.test/v#> .\n"

abbrev pub next_line : ℕ → List ℕ
next_line j = between (codes "<#it> v:next <d") j (codes "#it> .\n")

abbrev pub mark_line : ℕ → List ℕ
mark_line i = between (codes "<#it> v:mark ") i (codes " .\n")

abbrev pub turtle_text : ℕ → List ℕ → List ℕ
turtle_text i numbers = prefix_line ++ (flat_map next_line numbers ++ mark_line i)

-- ---- the entries

-- a reply with a document
abbrev pub document_reply : List ℕ → List ℕ → Reply
document_reply media body = record { status = 200; media = Some media; coding = None; location = None; body = body }

-- documents of even numbers are in N-Triples, the others in Turtle
abbrev pub numbered_reply : ℕ → List ℕ → Reply
numbered_reply i numbers =
    if i % 2 == 0 then document_reply (codes "application/n-triples") (ntriples_text i numbers)
    else document_reply (codes "text/turtle") (turtle_text i numbers)

abbrev pub document_link : ℕ → List ℕ
document_link i = codes "http://self.test/d" ++ decimal i

-- document i
abbrev pub document : ℕ → ℕ → ℕ → Entry
document n step i = (document_link i, numbered_reply i (next_numbers n step i))

-- the first k documents
abbrev pub documents : ℕ → ℕ → ℕ → List Entry
documents n step zero = []
documents n step (suc k) = documents n step k ++ document n step k ∷ []

-- the document behind the names that the others use
abbrev pub vocabulary : Entry
vocabulary = (codes "http://self.test/v", document_reply (codes "text/turtle") (codes "<#next> <#label> \"next\" .\n"))

-- the order of entries by their links
abbrev pub link_cmp : Entry → Entry → Ordering
link_cmp a b = slice_cmp nat_cmp a.0 b.0

-- ---- the site

-- the vocabulary and the documents below n, and nothing else, by their links
pub record IsGenerated (n step : ℕ) (entries : List Entry) : Type 0 where
  pub site : is_site_from None entries ≡ true
  pub same : IsPermutation (vocabulary ∷ documents n step n) entries
