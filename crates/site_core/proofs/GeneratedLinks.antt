-- The links of generated sites are site links, and no two of them are the same.
use Rattle.std.proofs.Common.{◌≡◌, ℕ, zero, suc, ◌+◌, ◌^◌, ◌<◌, ◌≤◌, Bool, true, false, List, [], ◌∷◌, ◌++◌, drop, All, None, decimal, refl, sym, ap, ◌∙◌, inl, inr, arith, append-nil, add-one}
use Rattle.std.specs.Prelude.{codes, bytes_eq, ◌||◌, ◌&&◌, ◌==◌, nat_le}
use Rattle.std.specs.List.{list_any, IsDistinct}
use Rattle.std.proofs.lemmas.Bool.{cases_Bool}
use Rattle.std.proofs.lemmas.Bool.Decides.{nat_tests}
use Rattle.std.proofs.lemmas.Fmt.{decimal_injective}
use Rattle.std.proofs.lemmas.List.Elements.{All-nil, All-cons, All-weaker, All-push, recursion_from_All}
use Rattle.std.proofs.lemmas.List.Folds.{list_any-append}
use Rattle.std.proofs.lemmas.Map.Keys.{IsDistinct-cons, IsDistinct-push}
use Rattle.std.proofs.lemmas.Slice.Eq.{bytes_eq-Decides}
use Rattle.std.specs.Cmp.{IsEquivalence}
use Rattle.std.specs.Cmp.Lexicographic.{nat_list_eq_equiv}
use Rattle.percent_encoding.specs.Percent.{IsKept}
use Rattle.url.specs.declared.host.Host.TheVariants.{Domain}
use Rattle.url.specs.declared.scheme.SchemeType.TheVariants.{SpecialNotFile}
use Rattle.url.specs.declared.sets.TheConstants.{PATH, FORBIDDEN_DOMAIN}
use Rattle.url.specs.Host.{IsDomain}
use Rattle.url.specs.Ipv4.{ends_in_a_number, parse_number}
use Rattle.url.specs.Input.{rsplit_once}
use Rattle.url.specs.Path.{IsSegment, dot_count}
use Rattle.url.proofs.InputLemmas.{Passes, All_from_list_all}
use Rattle.url.proofs.PathLemmas.{IsNoSlash}
use Rattle.url.proofs.SetLemmas.{kept_from_passes}
use Rattle.site_core.specs.Fields.{is_digit, is_site_link}
use Rattle.site_core.specs.Generated.{document, document_link, documents, vocabulary}
use Rattle.site_core.specs.Text.{Entry}
use Rattle.site_core.proofs.Numbers.{digits-decimal}
use Rattle.site_core.proofs.Spelled.{spelled_site_link}

pub documents_more : (n step k : ℕ) → documents n step (k + 1) ≡ documents n step k ++ document n step k ∷ []
documents_more n step k = ap (documents n step) (add-one k)

-- ---- they are site links

-- a small letter, a digit or a dot
abbrev is_name : ℕ → Bool
is_name b = (nat_le 97 b && nat_le b 122) || ((nat_le 48 b && nat_le b 57) || (b == 46))

-- a small letter or a digit
abbrev is_plain_name : ℕ → Bool
is_plain_name b = (nat_le 97 b && nat_le b 122) || (nat_le 48 b && nat_le b 57)

name_ascii : (b : ℕ) → is_name b ≡ true → b < 128
name_ascii b h = grind (arith, nat_tests)

plain_ascii : (b : ℕ) → is_plain_name b ≡ true → b < 128
plain_ascii b h = grind (arith, nat_tests)

plain_digit : (b : ℕ) → is_digit b ≡ true → is_plain_name b ≡ true
plain_digit b h = grind (arith, nat_tests)

no_slash : (b : ℕ) → is_plain_name b ≡ true → IsNoSlash SpecialNotFile b
no_slash b h = grind (arith, nat_tests)

self_domain : IsDomain (codes "self.test")
unfolding ends_in_a_number rsplit_once parse_number
self_domain = record {
  allowed = All-weaker (Passes is_name) (IsKept FORBIDDEN_DOMAIN) (λ b h. kept_from_passes is_name FORBIDDEN_DOMAIN refl b (name_ascii b h) h) (codes "self.test") (All_from_list_all is_name (codes "self.test") refl);
  lower = refl;
  named = refl;
}

self_link : (name : List ℕ) → IsSegment SpecialNotFile name → is_site_link (codes "http://self.test/" ++ name) ≡ true
self_link name segment = spelled_site_link (codes "http://self.test/" ++ name) (record {
  host = Domain (codes "self.test");
  port = None;
  path = 47 ∷ name;
  query = None;
  is_host = (self_domain, omega arith);
  is_port = tt;
  is_path = record { segments = name ∷ []; joined = ap (λ bs. 47 ∷ bs) (sym (append-nil name)); each = All-cons (IsSegment SpecialNotFile) name [] segment (All-nil (IsSegment SpecialNotFile)) };
  rooted = omega arith;
  is_query = tt;
  is_text = ap (λ bs. codes "http://self.test/" ++ bs) (sym (append-nil name));
})

letter_segment : (c : ℕ) (name : List ℕ) → is_plain_name c ≡ true → All (Passes is_plain_name) name → dot_count (c ∷ name) ≡ 0 → IsSegment SpecialNotFile (c ∷ name)
letter_segment c name first others resolved =
    let all = All-cons (Passes is_plain_name) c name first others in
    record {
      escaped = All-weaker (Passes is_plain_name) (IsKept PATH) (λ b h. kept_from_passes is_plain_name PATH refl b (plain_ascii b h) h) (c ∷ name) all;
      whole = All-weaker (Passes is_plain_name) (IsNoSlash SpecialNotFile) no_slash (c ∷ name) all;
      resolved = resolved;
    }

pub vocabulary_site_link : is_site_link vocabulary.0 ≡ true
unfolding dot_count
vocabulary_site_link = self_link (codes "v") (letter_segment 118 [] refl (All-nil (Passes is_plain_name)) refl)

pub document_site_link : (i : ℕ) → i < 2 ^ 64 → is_site_link (document_link i) ≡ true
unfolding dot_count
document_site_link i small =
    self_link (codes "d" ++ decimal i) (letter_segment 100 (decimal i) refl (All-weaker (Passes is_digit) (Passes is_plain_name) plain_digit (decimal i) (All_from_list_all is_digit (decimal i) (digits-decimal i small))) refl)

-- ---- no two are the same

abbrev pub has_link_of : Entry → Entry → Bool
has_link_of a b = bytes_eq a.0 b.0

documents_apart : (i j : ℕ) → i < 2 ^ 64 → j < 2 ^ 64 → (i ≡ j → ⊥) → bytes_eq (document_link i) (document_link j) ≡ false
documents_apart i j small_i small_j apart =
    elim (cases_Bool (bytes_eq (document_link i) (document_link j))) [
      | inl same ↦ absurd (apart (decimal_injective i j small_i small_j (ap (drop 18) ((bytes_eq-Decides (document_link i) (document_link j)).0 same))))
      | inr other ↦ other
    ]

vocabulary_apart : (j : ℕ) → bytes_eq vocabulary.0 (document_link j) ≡ false
vocabulary_apart j = refl

new_document : (n step k j : ℕ) → k ≤ j → j < 2 ^ 64 → list_any (has_link_of (document n step j)) (documents n step k) ≡ false
new_document n step zero j below small = refl
new_document n step (suc k) j below small =
    list_any-append (has_link_of (document n step j)) (documents n step k) (document n step k ∷ [])
    ∙ (λ i. new_document n step k j (omega arith) small i || (documents_apart j k small (omega arith) (λ e. omega arith) i || false))

distinct_documents : (n step k : ℕ) → k < 2 ^ 64 → IsDistinct has_link_of (documents n step k)
unfolding IsDistinct
distinct_documents n step zero small = tt
distinct_documents n step (suc k) small =
    IsDistinct-push links_equivalent (documents n step k) (document n step k) (distinct_documents n step k (omega arith)) (new_document n step k k (omega arith) (omega arith))
  where
    links_equivalent : IsEquivalence has_link_of
    links_equivalent = record {
      refl = λ a. nat_list_eq_equiv.refl a.0;
      symm = λ a b. nat_list_eq_equiv.symm a.0 b.0;
      congr = λ a b c. nat_list_eq_equiv.congr a.0 b.0 c.0;
    }

vocabulary_new : (n step k : ℕ) → All (λ (e : Entry). has_link_of vocabulary e ≡ false) (documents n step k)
vocabulary_new n step zero = All-nil (λ (e : Entry). has_link_of vocabulary e ≡ false)
vocabulary_new n step (suc k) =
    All-push (λ (e : Entry). has_link_of vocabulary e ≡ false) (documents n step k) (document n step k) (vocabulary_new n step k) (vocabulary_apart k)

pub distinct_entries : (n step k : ℕ) → k < 2 ^ 64 → IsDistinct has_link_of (vocabulary ∷ documents n step k)
distinct_entries n step k small = IsDistinct-cons has_link_of vocabulary (documents n step k) (recursion_from_All (λ (e : Entry). has_link_of vocabulary e ≡ false) (documents n step k) (vocabulary_new n step k)) (distinct_documents n step k small)
