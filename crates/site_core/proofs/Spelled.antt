-- A site link is spelled by a host, a port, a path and a query; and what they spell is a site link (URL Standard, section 4.5).
use Rattle.std.proofs.Common.{◌≡◌, ℕ, ◌<◌, Bool, true, false, List, [], ◌∷◌, ◌++◌, length, All, Option, Some, None, Ok, Err, IfSome, decimal, refl, sym, ap, ◌∙◌, subst, inl, inr, arith, append-nil}
use Rattle.std.specs.Prelude.{codes, not, ◌&&◌, bytes_eq, is_some, unwrap_or, option_map}
use Rattle.std.specs.List.{list_all}
use Rattle.std.proofs.lemmas.Bool.{and_parts, and_from, cases_Bool, cond_both}
use Rattle.std.proofs.lemmas.Bool.Decides.{nat_tests}
use Rattle.std.proofs.lemmas.Slice.Eq.{bytes_eq-Decides}
use Rattle.std.proofs.lemmas.List.Elements.{All-nil, All-cons, All-append, All-weaker, All-from_get_or}
use Rattle.std.proofs.lemmas.Fmt.{digits_decimal}
use Rattle.std.proofs.lemmas.Str.Parse.{numerals_by_value, tells_by_index}
use Rattle.std.specs.Int.{IsInRange}
use Rattle.percent_encoding.specs.Percent.{IsKept}
use Rattle.url.specs.declared.host.Host.{Host}
use Rattle.url.specs.declared.scheme.SchemeType.TheVariants.{SpecialNotFile}
use Rattle.url.specs.declared.sets.TheConstants.{PATH, SPECIAL_QUERY}
use Rattle.url.specs.Scheme.{scheme_type, default_port, scheme_len}
use Rattle.url.specs.Host.{host_text, IsHostOf}
use Rattle.url.specs.Path.{IsSegmentList}
use Rattle.url.specs.Parts.{Parts, serialize, has_host, has_credentials, host_or_empty, query_set, IsPortOf, IsValidHead, IsValid}
use Rattle.url.specs.Parser.{Parsed, parse_url}
use Rattle.url.specs.Input.{when}
use Rattle.url.proofs.InputLemmas.{Passes, list_all_from_All, All_from_list_all}
use Rattle.url.proofs.SetLemmas.{passes_from_kept}
use Rattle.url.proofs.SetterLemmas.{no_credentials, own_host, authority_from_host}
use Rattle.url.proofs.ValidLemmas.{hierarchical, base_from_authority, segment_list_kept}
use Rattle.url.proofs.HostRoundTrip.{IsHostByte, host_text_plain}
use Rattle.link_uri.specs.declared.link.Link.{Link}
use Rattle.link_uri.specs.Links.{is_web, link_of, link_of_parsed, link_of_url, scheme_of, web_link, without_fragment}
use Rattle.link_uri.proofs.LinkLemmas.{own_link_text}
use Rattle.site_core.specs.Fields.{is_http, is_own_http, is_site_link, is_visible}
use Rattle.site_core.proofs.ParsedUrls.{IsVisibleByte, http, http_valid, not_empty}

abbrev pub port_piece : Option ℕ → List ℕ
port_piece None = []
port_piece (Some n) = 58 ∷ decimal n

abbrev pub query_piece : Option (List ℕ) → List ℕ
query_piece None = []
query_piece (Some query) = 63 ∷ query

abbrev pub spelling : Host (List ℕ) → Option ℕ → List ℕ → Option (List ℕ) → List ℕ
spelling host port path query = codes "http://" ++ (host_text host ++ (port_piece port ++ (path ++ query_piece query)))

pub record Spelled (text : List ℕ) : Type 0 where
  pub host : Host (List ℕ)
  pub port : Option ℕ
  pub path : List ℕ
  pub query : Option (List ℕ)
  pub is_host : IsHostOf SpecialNotFile host
  pub is_port : IsPortOf http port
  pub is_path : IsSegmentList SpecialNotFile path
  pub rooted : 0 < length path
  pub is_query : IfSome query (All (IsKept SPECIAL_QUERY))
  pub is_text : text ≡ spelling host port path query

-- ---- the text of a URL with no user name, password and fragment

port_is : (port : Option ℕ) (rest : List ℕ) → when (is_some port) (codes ":") ++ (unwrap_or (option_map decimal port) [] ++ rest) ≡ port_piece port ++ rest
port_is None rest = refl
port_is (Some n) rest = refl

query_is : (query : Option (List ℕ)) → when (is_some query) (codes "?") ++ (unwrap_or query [] ++ []) ≡ query_piece query
query_is None = refl
query_is (Some q) = ap (λ bs. 63 ∷ bs) (append-nil q)

bare_text : (scheme path host : List ℕ) (port : Option ℕ) (query : Option (List ℕ))
    → scheme ++ (codes "://" ++ (host ++ (when (is_some port) (codes ":") ++ (unwrap_or (option_map decimal port) [] ++ (path ++ (when (is_some query) (codes "?") ++ (unwrap_or query [] ++ []))))))) ≡ scheme ++ (codes "://" ++ (host ++ (port_piece port ++ (path ++ query_piece query))))
bare_text scheme path host port query =
    ap (λ bs. scheme ++ (codes "://" ++ (host ++ bs))) (ap (λ bs. when (is_some port) (codes ":") ++ (unwrap_or (option_map decimal port) [] ++ (path ++ bs))) (query_is query) ∙ port_is port (path ++ query_piece query))

web_text : (url : Parts) → url.username ≡ [] → url.password ≡ [] → is_some url.host ≡ true
    → serialize (without_fragment url) ≡ url.scheme ++ (codes "://" ++ (host_text (host_or_empty url) ++ (port_piece url.port ++ (url.path ++ query_piece url.query))))
web_text url user pass host = plain ∙ bare_text url.scheme url.path (host_text (host_or_empty url)) url.port url.query
  where
    plain : serialize (without_fragment url) ≡ url.scheme ++ (codes "://" ++ (host_text (host_or_empty url) ++ (when (is_some url.port) (codes ":") ++ (unwrap_or (option_map decimal url.port) [] ++ (url.path ++ (when (is_some url.query) (codes "?") ++ (unwrap_or url.query [] ++ [])))))))
    plain = rw (user, pass, host) refl

-- ---- a site link is spelled so

web_parts : (a b c : Bool) → (a && (b && not c)) ≡ true → (b ≡ true) × (c ≡ false)
web_parts true true false h = (refl, refl)
web_parts true true true h = absurd cc
web_parts true false c h = absurd cc
web_parts false b c h = absurd cc

http_scheme : (url : Parts) → is_http (scheme_of url) ≡ true → url.scheme ≡ http
http_scheme url h =
    elim (cases_Bool (bytes_eq url.scheme (codes "http"))) [
      | inl same ↦ (bytes_eq-Decides url.scheme (codes "http")).0 same
      | inr other ↦ absurd (let none : is_http (scheme_of url) ≡ false = rw other refl in cc)
    ]

url_spelled : (text : List ℕ) (url : Parts) → All IsVisibleByte text → parse_url None text ≡ Ok url → is_own_http text (link_of_url url) ≡ true → Spelled text
unfolding scheme_type default_port
url_spelled text url visible parsed own =
    cond_both (is_web url) (Some (web_link url)) None (λ (l : Option Link). is_own_http text l ≡ true → Spelled text) (λ web. λ yes_. by web yes_) (λ _. λ no_. absurd (let f : false ≡ true = no_ in cc)) own
  where
    by : is_web url ≡ true → (is_http (scheme_of url) && bytes_eq (serialize (without_fragment url)) text) ≡ true → Spelled text
    by web h =
        let both = and_parts (is_http (scheme_of url)) (bytes_eq (serialize (without_fragment url)) text) h in
        let scheme = http_scheme url both.0 in
        let parts = web_parts _ (has_host url) (has_credentials url) web in
        let bare = no_credentials url parts.1 in
        let authority = authority_from_host url parts.0 in
        let rest = host_text (host_or_empty url) ++ (port_piece url.port ++ (url.path ++ query_piece url.query)) in
        let spelled : text ≡ codes "http://" ++ rest = sym ((bytes_eq-Decides (serialize (without_fragment url)) text).0 both.1) ∙ web_text url bare.0 bare.1 authority ∙ ap (λ s. s ++ (codes "://" ++ rest)) scheme in
        let P : List ℕ → Type 0 = λ bs. All IsVisibleByte bs in
        let Q : List ℕ → Type 0 = λ bs. parse_url None bs ≡ Ok url in
        let valid = (http_valid rest url (subst P spelled visible) (subst Q spelled parsed)).0 in
        let of_kind = ap scheme_type scheme in
        let path = hierarchical url valid.path (base_from_authority url authority) in
        record {
          host = host_or_empty url;
          port = url.port;
          path = url.path;
          query = url.query;
          is_host = subst (λ k. IsHostOf k (host_or_empty url)) of_kind (own_host url valid.head authority);
          is_port = subst (λ s. IsPortOf s url.port) scheme valid.head.port;
          is_path = subst (λ k. IsSegmentList k url.path) of_kind path.0;
          rooted = path.1 (rw of_kind refl);
          is_query = subst (λ k. IfSome url.query (All (IsKept (query_set k)))) of_kind valid.query;
          is_text = spelled;
        }

visible_bytes : (text : List ℕ) → list_all is_visible text ≡ true → All IsVisibleByte text
visible_bytes text all = All-weaker (Passes is_visible) IsVisibleByte (λ b h. (grind (arith, nat_tests), grind (arith, nat_tests))) text (All_from_list_all is_visible text all)

parsed_spelled : (text : List ℕ) (parsed : Parsed Parts) → All IsVisibleByte text → parse_url None text ≡ parsed → is_own_http text (link_of_parsed parsed) ≡ true → Spelled text
parsed_spelled text (Ok url) visible is own = url_spelled text url visible is own
parsed_spelled text (Err e) visible is own = absurd cc

pub site_link_spelled : (text : List ℕ) → is_site_link text ≡ true → Spelled text
unfolding is_site_link
site_link_spelled text h =
    let both = and_parts (list_all is_visible text) (is_own_http text (link_of text)) h in
    parsed_spelled text (parse_url None text) (visible_bytes text both.0) refl both.1

-- ---- what is spelled so is a site link

abbrev IsShown : ℕ → Type 0
IsShown b = Passes is_visible b

port_shown : (port : Option ℕ) → IsPortOf http port → All IsShown (port_piece port)
port_shown None valid = All-nil IsShown
port_shown (Some n) valid =
    All-cons IsShown 58 (decimal n) refl (All-from_get_or IsShown (decimal n) 0 (λ i inside. digit _ (digits_decimal (numerals_by_value _ tells_by_index) n (omega (arith, valid.0)) i inside)))
  where
    digit : (b : ℕ) → IsInRange 48 57 b → IsShown b
    digit b range = grind (arith, nat_tests)

query_shown : (query : Option (List ℕ)) → IfSome query (All (IsKept SPECIAL_QUERY)) → All IsShown (query_piece query)
query_shown None valid = All-nil IsShown
query_shown (Some q) valid = All-cons IsShown 63 q refl (All-weaker (IsKept SPECIAL_QUERY) IsShown (passes_from_kept SPECIAL_QUERY is_visible refl) q valid)

host_shown : (host : Host (List ℕ)) → IsHostOf SpecialNotFile host → All IsShown (host_text host)
host_shown host valid = All-weaker IsHostByte IsShown (λ b h. let low = h.above in let high = h.below in grind (arith, nat_tests)) (host_text host) (host_text_plain SpecialNotFile host valid)

shown : (text : List ℕ) (s : Spelled text) → All IsShown text
shown text s =
    let path = All-weaker (IsKept PATH) IsShown (passes_from_kept PATH is_visible refl) s.path (segment_list_kept SpecialNotFile s.path s.is_path) in
    let tail = All-append IsShown s.path (query_piece s.query) path (query_shown s.query s.is_query) in
    let behind_host = All-append IsShown (port_piece s.port) (s.path ++ query_piece s.query) (port_shown s.port s.is_port) tail in
    let rest = All-append IsShown (host_text s.host) (port_piece s.port ++ (s.path ++ query_piece s.query)) (host_shown s.host s.is_host) behind_host in
    subst (All IsShown) (sym s.is_text) (All-append IsShown (codes "http://") (host_text s.host ++ (port_piece s.port ++ (s.path ++ query_piece s.query))) (All_from_list_all is_visible (codes "http://") refl) rest)

pub spelled_site_link : (text : List ℕ) → Spelled text → is_site_link text ≡ true
unfolding is_site_link scheme_len scheme_type default_port
spelled_site_link text s =
    let url : Parts = record { scheme = http; username = []; password = []; host = Some s.host; port = s.port; path = s.path; query = s.query; fragment = None } in
    let head : IsValidHead url = record { scheme = record { nonempty = omega arith; whole = refl; lower = refl }; username = All-nil _; password = All-nil _; host = s.is_host; port = s.is_port; bare = λ cannot. absurd (not_empty s.host s.is_host (grind arith)) } in
    let valid : IsValid url = record { head = head; path = inl (s.is_path, λ _. s.rooted); query = s.is_query; fragment = tt } in
    let web : is_web url ≡ true = grind (arith, not_empty s.host s.is_host) in
    let written : serialize (without_fragment url) ≡ text = web_text url refl refl refl ∙ sym s.is_text in
    let own : link_of text ≡ Some (web_link url) = ap link_of (sym written) ∙ own_link_text url valid web in
    let same : bytes_eq (serialize (without_fragment url)) text ≡ true = (bytes_eq-Decides (serialize (without_fragment url)) text).1 written in
    and_from (list_all is_visible text) (is_own_http text (link_of text)) (list_all_from_All is_visible text (shown text s)) (ap (is_own_http text) own ∙ same)
