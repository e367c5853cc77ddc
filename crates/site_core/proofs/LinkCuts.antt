-- Which parts of a link some site link begins with: those that one of the endings makes a site link of.
use Rattle.std.proofs.Common.{◌≡◌, ◌≢◌, ℕ, ◌^◌, ◌<◌, Bool, true, List, [], ◌∷◌, ◌++◌, length, All, Option, Some, None, IfSome, decimal, refl, sym, ap, ◌∙◌, subst, inl, inr, arith, lit<, append-nil, append_assoc, length-append}
use Rattle.std.specs.Prelude.{codes, ◌||◌, ◌==◌}
use Rattle.std.specs.List.{list_any}
use Rattle.std.specs.Fmt.{digits}
use Rattle.std.specs.Char.{to_ascii_lowercase}
use Rattle.std.specs.Net.Addr.{ipv4_octets, ipv6_segments}
use Rattle.std.specs.Net.Text.{ipv4_text, hex_groups_text}
use Rattle.std.proofs.NetLemmas.Alphabet.{IsDigitOrDot, All-ipv4_text}
use Rattle.std.proofs.lemmas.Bool.{cases_eq, or_left, or_right}
use Rattle.std.proofs.lemmas.Bool.Decides.{nat_tests}
use Rattle.std.proofs.lemmas.Option.{same_Some}
use Rattle.std.proofs.lemmas.List.Elements.{All-nil, All-weaker}
use Rattle.percent_encoding.specs.Percent.{IsKept}
use Rattle.url.specs.declared.host.Host.{Host}
use Rattle.url.specs.declared.host.Host.TheVariants.{Domain, Ipv4, Ipv6}
use Rattle.url.specs.declared.scheme.SchemeType.TheVariants.{SpecialNotFile}
use Rattle.url.specs.declared.sets.TheConstants.{FORBIDDEN_DOMAIN, SPECIAL_QUERY}
use Rattle.url.specs.Scheme.{default_port}
use Rattle.url.specs.Host.{host_text, IsDomain, IsHostOf}
use Rattle.url.specs.Input.{lowercase}
use Rattle.url.specs.Path.{IsSegmentList}
use Rattle.url.specs.Parts.{IsPortOf}
use Rattle.url.proofs.InputLemmas.{map_fixed}
use Rattle.url.proofs.PathLemmas.{root_only}
use Rattle.url.proofs.SetLemmas.{kept_from_passes}
use Rattle.site_core.specs.Fields.{is_site_link}
use Rattle.site_core.specs.Growth.{endings, ends_in_link}
use Rattle.site_core.proofs.ParsedUrls.{http}
use Rattle.site_core.proofs.Spelled.{Spelled, port_piece, query_piece, site_link_spelled, spelled_site_link}
use Rattle.site_core.proofs.Cuts.{division, unsnoc, tilde, path_on, query_on, domain_on, number_part}
use Rattle.site_core.proofs.AddressPrefixes.{Closes, IsEnding, IsOne, address_part}

one_of : (test : List ℕ → Bool) (xs : List (List ℕ)) (e : List ℕ) → IsOne xs e → test e ≡ true → list_any test xs ≡ true
one_of test [] e is holds = absurd is
one_of test (x ∷ xs) e (inl same) holds = or_left (test x) (list_any test xs) (ap test same ∙ holds)
one_of test (x ∷ xs) e (inr later) holds = or_right (test x) (list_any test xs) (one_of test xs e later holds)

by_ending : (t e : List ℕ) → IsEnding e → Spelled (t ++ e) → ends_in_link t ≡ true
by_ending t e is spelled = one_of (λ ending. is_site_link (t ++ ending)) endings e is (spelled_site_link (t ++ e) spelled)

on_tilde : IsEnding tilde
on_tilde = inl refl

on_slash : IsEnding (codes "/")
on_slash = inr (inl refl)

on_one : IsEnding (codes "1/")
on_one = inr (inr (inl refl))

on_domain : IsEnding (codes "~/")
on_domain = inr (inr (inr (inl refl)))

-- ---- behind a whole authority

abbrev authority : Host (List ℕ) → Option ℕ → List ℕ
authority host port = codes "http://" ++ (host_text host ++ port_piece port)

-- a text of a host, a port and what is behind them
spelled_by : (t rest path : List ℕ) (host : Host (List ℕ)) (port : Option ℕ) (query : Option (List ℕ)) → IsHostOf SpecialNotFile host → IsPortOf http port → IsSegmentList SpecialNotFile path → 0 < length path → IfSome query (All (IsKept SPECIAL_QUERY)) → t ≡ authority host port → rest ≡ path ++ query_piece query → Spelled (t ++ rest)
spelled_by t rest path host port query is_host is_port is_path rooted is_query front back = record {
  host = host;
  port = port;
  path = path;
  query = query;
  is_host = is_host;
  is_port = is_port;
  is_path = is_path;
  rooted = rooted;
  is_query = is_query;
  is_text = (λ i. front i ++ back i) ∙ append_assoc (codes "http://") (host_text host ++ port_piece port) (path ++ query_piece query) ∙ ap (λ bs. codes "http://" ++ bs) (append_assoc (host_text host) (port_piece port) (path ++ query_piece query));
}

-- the authority is whole, and nothing is behind it
at_authority : (t : List ℕ) (host : Host (List ℕ)) (port : Option ℕ) → IsHostOf SpecialNotFile host → IsPortOf http port → t ≡ authority host port → ends_in_link t ≡ true
at_authority t host port is_host is_port is =
    by_ending t (codes "/") on_slash (spelled_by t (codes "/") (codes "/") host port None is_host is_port (root_only SpecialNotFile) (omega arith) tt is refl)

abbrev Behind : Host (List ℕ) → Option ℕ → List ℕ → Option (List ℕ) → Type 0
Behind host port path query = IsHostOf SpecialNotFile host × IsPortOf http port × IsSegmentList SpecialNotFile path × (0 < length path) × IfSome query (All (IsKept SPECIAL_QUERY))

tilde_path : (t front w : List ℕ) (host : Host (List ℕ)) (port : Option ℕ) → IsHostOf SpecialNotFile host → IsPortOf http port → front ≡ authority host port → t ≡ front ++ w → IsSegmentList SpecialNotFile (w ++ tilde) → ends_in_link t ≡ true
tilde_path t front w host port is_host is_port is parts path =
    let text : t ++ tilde ≡ front ++ (w ++ tilde) = ap (λ bs. bs ++ tilde) parts ∙ append_assoc front w tilde in
    by_ending t tilde on_tilde (subst Spelled (sym text) (spelled_by front (w ++ tilde) (w ++ tilde) host port None is_host is_port path (omega (arith, length-append w tilde)) tt is (sym (append-nil (w ++ tilde)))))

-- the query's part, behind the whole path
in_tail : (t front path q more : List ℕ) (host : Host (List ℕ)) (port : Option ℕ) (query : Option (List ℕ)) → Behind host port path query → front ≡ authority host port → t ≡ front ++ (path ++ q) → q ++ more ≡ query_piece query → ends_in_link t ≡ true
in_tail t front path [] more host port query valid is parts rest =
    tilde_path t front path host port valid.0 valid.1 is (parts ∙ ap (λ bs. front ++ bs) (append-nil path)) (path_on path path [] valid.2 (append-nil path) valid.3)
in_tail t front path (b ∷ q) more host port None valid is parts rest = absurd cc
in_tail t front path (b ∷ q) more host port (Some query) valid is parts rest =
    let head : b ≡ 63 = cc in
    let tail : q ++ more ≡ query = cc in
    let back : (path ++ (b ∷ q)) ++ tilde ≡ path ++ query_piece (Some (q ++ tilde)) = append_assoc path (b ∷ q) tilde ∙ (λ i. path ++ head i ∷ (q ++ tilde)) in
    let text : t ++ tilde ≡ front ++ ((path ++ (b ∷ q)) ++ tilde) = ap (λ bs. bs ++ tilde) parts ∙ append_assoc front (path ++ (b ∷ q)) tilde in
    by_ending t tilde on_tilde (subst Spelled (sym text) (spelled_by front ((path ++ (b ∷ q)) ++ tilde) path host port (Some (q ++ tilde)) valid.0 valid.1 valid.2 valid.3 (query_on query q more valid.4 tail) is back))

-- a part that ends behind the authority
behind_authority : (t front w more path : List ℕ) (host : Host (List ℕ)) (port : Option ℕ) (query : Option (List ℕ)) → Behind host port path query → front ≡ authority host port → t ≡ front ++ w → w ++ more ≡ path ++ query_piece query → ends_in_link t ≡ true
behind_authority t front [] more path host port query valid is parts rest = at_authority t host port valid.0 valid.1 (parts ∙ append-nil front ∙ is)
behind_authority t front (b ∷ w) more path host port query valid is parts rest =
    elim (division (b ∷ w) more path (query_piece query) rest) [
      | inl h ↦ in_tail t front path h.0 more host port query valid is (parts ∙ ap (λ bs. front ++ bs) h.1) h.2
      | inr h ↦ tilde_path t front (b ∷ w) host port valid.0 valid.1 is parts (path_on path (b ∷ w) h.0 valid.2 (sym h.1) (omega arith))
    ]

-- ---- within a port

port_not : (n : ℕ) → (n ≡ 80 → ⊥) → default_port http ≢ Some n
unfolding default_port
port_not n other same = other (sym (same_Some 80 n same))

-- a port of the part's digits, or of those and one more
with_port : (t front : List ℕ) (m : ℕ) (host : Host (List ℕ)) → IsHostOf SpecialNotFile host → m < 2 ^ 16 → front ≡ codes "http://" ++ host_text host → t ≡ front ++ (58 ∷ decimal m) → ends_in_link t ≡ true
unfolding digits
with_port t front m host is_host small is parts =
    elim (cases_eq m 80) [
      | inl eighty ↦
          let more : t ++ codes "1/" ≡ (front ++ (58 ∷ decimal 801)) ++ codes "/" =
          ap (λ bs. bs ++ codes "1/") (parts ∙ ap (λ n. front ++ (58 ∷ decimal n)) eighty) ∙ append_assoc front (codes ":80") (codes "1/") ∙ sym (append_assoc front (codes ":801") (codes "/")) in
          by_ending t (codes "1/") on_one (subst Spelled (sym more) (spelled_by (front ++ (58 ∷ decimal 801)) (codes "/") (codes "/") host (Some 801) None is_host (lit< tt, port_not 801 (λ e. omega arith)) (root_only SpecialNotFile) (omega arith) tt (front_is 801) refl))
      | inr other ↦ at_authority t host (Some m) is_host (small, port_not m other) (parts ∙ front_is m)
    ]
  where
    front_is : (n : ℕ) → front ++ (58 ∷ decimal n) ≡ authority host (Some n)
    front_is n = ap (λ bs. bs ++ (58 ∷ decimal n)) is ∙ append_assoc (codes "http://") (host_text host) (58 ∷ decimal n)

no_digits : (t front : List ℕ) (host : Host (List ℕ)) → IsHostOf SpecialNotFile host → front ≡ codes "http://" ++ host_text host → t ≡ front ++ codes ":" → ends_in_link t ≡ true
unfolding digits
no_digits t front host is_host is parts =
    let more : t ++ codes "1/" ≡ (front ++ (58 ∷ decimal 1)) ++ codes "/" = ap (λ bs. bs ++ codes "1/") parts ∙ append_assoc front (codes ":") (codes "1/") ∙ sym (append_assoc front (codes ":1") (codes "/")) in
    by_ending t (codes "1/") on_one (subst Spelled (sym more) (spelled_by (front ++ (58 ∷ decimal 1)) (codes "/") (codes "/") host (Some 1) None is_host (lit< tt, port_not 1 (λ e. omega arith)) (root_only SpecialNotFile) (omega arith) tt (ap (λ bs. bs ++ (58 ∷ decimal 1)) is ∙ append_assoc (codes "http://") (host_text host) (58 ∷ decimal 1)) refl))

in_port : (t front v c : List ℕ) (host : Host (List ℕ)) (port : Option ℕ) → IsHostOf SpecialNotFile host → IsPortOf http port → front ≡ codes "http://" ++ host_text host → t ≡ front ++ v → port_piece port ≡ v ++ c → ends_in_link t ≡ true
in_port t front [] c host port is_host is_port is parts rest = at_authority t host None is_host tt (parts ∙ append-nil front ∙ is ∙ sym (append-nil (codes "http://" ++ host_text host)))
in_port t front (b ∷ v) c host None is_host is_port is parts rest = absurd cc
in_port t front (b ∷ v) c host (Some n) is_host is_port is parts rest =
    let head : b ≡ 58 = cc in
    let tail : v ++ c ≡ decimal n = cc in
    elim (number_part n n v c (omega arith) (omega (arith, is_port.0)) tail) [
      | inl none ↦ no_digits t front host is_host is (parts ∙ (λ i. front ++ head i ∷ none i))
      | inr part ↦ with_port t front part.0 host is_host (omega (arith, is_port.0, part.1)) is (parts ∙ (λ i. front ++ head i ∷ part.2 i))
    ]

-- ---- within a host

by_domain : (t u : List ℕ) → IsDomain (u ++ tilde) × (0 < length (u ++ tilde)) → t ≡ codes "http://" ++ u → ends_in_link t ≡ true
by_domain t u domain is =
    let text : t ++ codes "~/" ≡ (codes "http://" ++ (u ++ tilde)) ++ codes "/" = ap (λ bs. bs ++ codes "~/") is ∙ append_assoc (codes "http://") u (codes "~/") ∙ ap (λ bs. codes "http://" ++ bs) (sym (append_assoc u tilde (codes "/"))) ∙ sym (append_assoc (codes "http://") (u ++ tilde) (codes "/")) in
    by_ending t (codes "~/") on_domain (subst Spelled (sym text) (spelled_by (codes "http://" ++ (u ++ tilde)) (codes "/") (codes "/") (Domain (u ++ tilde)) None None domain tt (root_only SpecialNotFile) (omega arith) tt (ap (λ bs. codes "http://" ++ bs) (sym (append-nil (u ++ tilde)))) refl))

digit_allowed : (b : ℕ) → IsDigitOrDot b → IsKept FORBIDDEN_DOMAIN b
digit_allowed b h = kept_from_passes (λ b. b == 46 || (b == 48 || (b == 49 || (b == 50 || (b == 51 || (b == 52 || (b == 53 || (b == 54 || (b == 55 || (b == 56 || b == 57)))))))))) FORBIDDEN_DOMAIN refl b (grind arith) (grind (arith, nat_tests))

digit_lower : (b : ℕ) → IsDigitOrDot b → to_ascii_lowercase b ≡ b
digit_lower b h = grind (arith, nat_tests)

in_host : (t u c : List ℕ) (host : Host (List ℕ)) → IsHostOf SpecialNotFile host → t ≡ codes "http://" ++ u → 0 < length u → 0 < length c → host_text host ≡ u ++ c → ends_in_link t ≡ true
in_host t u c (Domain domain) valid is some left rest =
    let P : List ℕ → Type 0 = λ bs. All (IsKept FORBIDDEN_DOMAIN) bs in
    let Q : List ℕ → Type 0 = λ bs. lowercase bs ≡ bs in
    by_domain t u (domain_on u c (subst P rest valid.0.allowed) (subst Q rest valid.0.lower)) is
in_host t u c (Ipv4 address) valid is some left rest =
    let text = ipv4_text (ipv4_octets address) in
    let bytes = All-ipv4_text (ipv4_octets address) valid.1 in
    let P : List ℕ → Type 0 = λ bs. All (IsKept FORBIDDEN_DOMAIN) bs in
    let Q : List ℕ → Type 0 = λ bs. lowercase bs ≡ bs in
    by_domain t u (domain_on u c (subst P rest (All-weaker IsDigitOrDot (IsKept FORBIDDEN_DOMAIN) digit_allowed text bytes)) (subst Q rest (map_fixed to_ascii_lowercase text (All-weaker IsDigitOrDot (λ b. to_ascii_lowercase b ≡ b) digit_lower text bytes)))) is
in_host t [] c (Ipv6 address) valid is some left rest = absurd (omega arith)
in_host t (b ∷ p) c (Ipv6 address) valid is some left rest =
    let segments = ipv6_segments address in
    let head : b ≡ 91 = cc in
    let tail : p ++ c ≡ hex_groups_text segments ++ codes "]" = (let e : hex_groups_text segments ++ codes "]" ≡ p ++ c = cc in sym e) in
    elim (unsnoc p c (hex_groups_text segments) 93 tail) [
      | inl none ↦ absurd (let empty = ap length none in omega arith)
      | inr h ↦ by head (address_part segments p h.0 valid.0 valid.1 h.1)
    ]
  where
    by : b ≡ 91 → Closes p → ends_in_link t ≡ true
    by head c =
        let host : Host (List ℕ) = Ipv6 (record { segments = c.segments }) in
        let whole : (codes "http://" ++ (b ∷ p)) ++ c.ending ≡ authority host None =
        append_assoc (codes "http://") (b ∷ p) c.ending ∙ (λ i. codes "http://" ++ head i ∷ c.closed i) ∙ ap (λ bs. codes "http://" ++ bs) (sym (append-nil (codes "[" ++ (hex_groups_text c.segments ++ codes "]")))) in
        let text : t ++ (c.ending ++ codes "/") ≡ ((codes "http://" ++ (b ∷ p)) ++ c.ending) ++ codes "/" = ap (λ bs. bs ++ (c.ending ++ codes "/")) is ∙ sym (append_assoc (codes "http://" ++ (b ∷ p)) c.ending (codes "/")) in
        by_ending t (c.ending ++ codes "/") c.is_ending (subst Spelled (sym text) (spelled_by ((codes "http://" ++ (b ∷ p)) ++ c.ending) (codes "/") (codes "/") host None None (c.eight, c.small) tt (root_only SpecialNotFile) (omega arith) tt whole refl))

-- ---- all parts

in_link : (t u more : List ℕ) (s : Spelled (t ++ more)) → t ≡ codes "http://" ++ u → 0 < length u → u ++ more ≡ host_text s.host ++ (port_piece s.port ++ (s.path ++ query_piece s.query)) → ends_in_link t ≡ true
in_link t u more s is some rest =
    let host = host_text s.host in
    let tail = s.path ++ query_piece s.query in
    elim (division u more host (port_piece s.port ++ tail) rest) [
      | inl h ↦
          let front = codes "http://" ++ host in
          let parts : t ≡ front ++ h.0 = is ∙ ap (λ bs. codes "http://" ++ bs) h.1 ∙ sym (append_assoc (codes "http://") host h.0) in
          elim (division h.0 more (port_piece s.port) tail h.2) [
            | inl k ↦
                behind_authority t (front ++ port_piece s.port) k.0 more s.path s.host s.port s.query (s.is_host, s.is_port, s.is_path, s.rooted, s.is_query)
                (append_assoc (codes "http://") host (port_piece s.port))
                (parts ∙ ap (λ bs. front ++ bs) k.1 ∙ sym (append_assoc front (port_piece s.port) k.0))
                k.2
            | inr k ↦ in_port t front h.0 k.0 s.host s.port s.is_host s.is_port refl parts k.1
          ]
      | inr h ↦ in_host t u h.0 s.host s.is_host is some h.2 h.1
    ]

-- a part that is more than the beginning of `http://`, and that a site link begins with, ends in a site link
pub part_link : (t more : List ℕ) → is_site_link (t ++ more) ≡ true → ((c : List ℕ) → t ++ c ≡ codes "http://" → ⊥) → ends_in_link t ≡ true
part_link t more link longer =
    let s = site_link_spelled (t ++ more) link in
    elim (division t more (codes "http://") (host_text s.host ++ (port_piece s.port ++ (s.path ++ query_piece s.query))) s.is_text) [
      | inl h ↦ by s h.0 h.1 h.2
      | inr h ↦ absurd (longer h.0 (sym h.1))
    ]
  where
    by : (s : Spelled (t ++ more)) (u : List ℕ) → t ≡ codes "http://" ++ u → u ++ more ≡ host_text s.host ++ (port_piece s.port ++ (s.path ++ query_piece s.query)) → ends_in_link t ≡ true
    by s [] is rest = absurd (longer [] (append-nil t ∙ is))
    by s (b ∷ u) is rest = in_link t (b ∷ u) more s is (omega arith) rest

-- a site link goes on with `~`
pub link_on : (link : List ℕ) → is_site_link link ≡ true → is_site_link (link ++ tilde) ≡ true
link_on link is =
    let s = site_link_spelled link is in
    let front = authority s.host s.port in
    let host = host_text s.host in
    let text : link ≡ front ++ (s.path ++ query_piece s.query) =
    s.is_text ∙ ap (λ bs. codes "http://" ++ bs) (sym (append_assoc host (port_piece s.port) (s.path ++ query_piece s.query))) ∙ sym (append_assoc (codes "http://") (host ++ port_piece s.port) (s.path ++ query_piece s.query)) in
    let longer : link ++ tilde ≡ front ++ ((s.path ++ query_piece s.query) ++ tilde) = ap (λ bs. bs ++ tilde) text ∙ append_assoc front (s.path ++ query_piece s.query) tilde in
    spelled_site_link (link ++ tilde) (subst Spelled (sym longer) (by s s.query refl))
  where
    by : (s : Spelled link) (query : Option (List ℕ)) → s.query ≡ query → Spelled (authority s.host s.port ++ ((s.path ++ query_piece s.query) ++ tilde))
    by s None none =
        spelled_by (authority s.host s.port) ((s.path ++ query_piece s.query) ++ tilde) (s.path ++ tilde) s.host s.port None s.is_host s.is_port (path_on s.path s.path [] s.is_path (append-nil s.path) s.rooted) (omega (arith, length-append s.path tilde)) tt refl
        (ap (λ bs. bs ++ tilde) (ap (λ q. s.path ++ query_piece q) none ∙ append-nil s.path) ∙ sym (append-nil (s.path ++ tilde)))
    by s (Some query) some =
        let kept = subst (λ (q : Option (List ℕ)). IfSome q (All (IsKept SPECIAL_QUERY))) some s.is_query in
        spelled_by (authority s.host s.port) ((s.path ++ query_piece s.query) ++ tilde) s.path s.host s.port (Some (query ++ tilde)) s.is_host s.is_port s.is_path s.rooted (query_on query query [] kept (append-nil query)) refl
        (ap (λ bs. bs ++ tilde) (ap (λ q. s.path ++ query_piece q) some) ∙ append_assoc s.path (63 ∷ query) tilde)

-- a beginning of `http://` is one of a site link
pub http_link : is_site_link (codes "http://~/") ≡ true
http_link = spelled_site_link (codes "http://~/") (spelled_by (codes "http://~") (codes "/") (codes "/") (Domain tilde) None None (domain_on [] [] (All-nil (IsKept FORBIDDEN_DOMAIN)) refl) tt (root_only SpecialNotFile) (omega arith) tt refl refl)
