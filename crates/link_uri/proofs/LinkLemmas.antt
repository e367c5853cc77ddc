-- A web URL is read back from the text of its link.
use Rattle.std.proofs.Common.{◌≡◌, ◌++◌, ℕ, Bool, true, false, cond, not, List, [], ◌∷◌, codes, Option, Some, None, Err, refl, sym, ap, ◌∙◌, ⊎_elim, arith, inl, inr, Bor}
use Rattle.std.specs.Prelude.{◌&&◌, ◌⊎◌, unwrap_or, option_map, bytes_eq, option_copied}
use Rattle.std.proofs.lemmas.Bool.{cases_Bool}
use Rattle.std.proofs.lemmas.Slice.Eq.{bytes_eq-Decides}
use Rattle.std.proofs.lemmas.Bool.Decides.{nat_tests}
use Rattle.url.specs.declared.host.Host.{Host}
use Rattle.url.specs.declared.error.ParseError.{ParseError}
use Rattle.url.specs.declared.host.Host.TheVariants.{Domain, Ipv4, Ipv6}
use Rattle.url.specs.declared.scheme.SchemeType.TheVariants.{SpecialNotFile}
use Rattle.url.specs.declared.slicing.Position.TheVariants.{BeforeScheme, BeforePath, AfterQuery}
use Rattle.url.specs.Scheme.{scheme_type, default_port}
use Rattle.url.specs.Host.{host_text, is_empty_host}
use Rattle.url.specs.Input.{is_empty}
use Rattle.url.specs.Origin.{is_http}
use Rattle.url.specs.Parts.{Parts, serialize, text_between, nonempty_host, host_or_empty, IsValidHead, IsValid}
use Rattle.url.specs.Parser.{parse_url, Gives, and_then, IsOutOfRoom}
use Rattle.url.specs.Ascii.{slash}
use Rattle.url.specs.Path.{IsSegmentList, join_segments}
use Rattle.url.specs.Parts.{IsValidPath, kind_of}
use Rattle.url.specs.declared.scheme.SchemeType.{SchemeType}
use Rattle.std.proofs.Common.{◌<◌, length, take, subst}
use Rattle.std.specs.Prelude.{slice_index}
use Rattle.url.proofs.Theorems.{parse_url-serialize_special}
use Rattle.url.proofs.InputLemmas.{is_empty-nil}
use Rattle.link_uri.specs.declared.link.Link.{Link}
use Rattle.link_uri.specs.declared.link.Scheme.{Scheme}
use Rattle.link_uri.specs.declared.link.Scheme.TheVariants.{Http, Https}
use Rattle.std.specs.Option.{option_or}
use Rattle.std.specs.Prelude.{is_some, decimal, ◌==◌}
use Rattle.url.specs.Input.{when}
use Rattle.url.specs.Parts.{IsPortOf}
use Rattle.url.proofs.SetterLemmas.{no_credentials}
use Rattle.std.proofs.lemmas.Bool.{ne_eqb}
use Rattle.url.specs.Parts.{has_host, has_credentials}
use Rattle.rdf_terms.proofs.Adding.{Tells}
use Rattle.link_uri.specs.Links.{same_link, without_fragment, is_web, web_link, link_of_parsed, link_of, IsLink, spelled, own_port, port_text, scheme_text, scheme_of}

pub text_is : (url : Parts) → text_between url BeforeScheme AfterQuery ≡ serialize (without_fragment url)
text_is url = refl

host_or_none : (host : Option (Host (List ℕ))) → unwrap_or (option_map host_text (cond (not (is_empty_host (unwrap_or host (Domain [])))) host None)) [] ≡ host_text (unwrap_or host (Domain []))
host_or_none None = refl
host_or_none (Some (Domain domain)) =
    ⊎_elim (λ empty. let none = is_empty-nil domain empty in rw (none) refl) (λ nonempty. rw nonempty refl) (cases_Bool (is_empty domain))
host_or_none (Some (Ipv4 address)) = refl
host_or_none (Some (Ipv6 address)) = refl

pub host_is : (url : Parts) → unwrap_or (option_map host_text (nonempty_host url)) [] ≡ host_text (host_or_empty url)
host_is url = host_or_none url.host

http_kind : (scheme : List ℕ) → is_http scheme ≡ true → scheme_type scheme ≡ SpecialNotFile
unfolding scheme_type default_port
http_kind scheme web =
    ⊎_elim (λ h. let is : scheme ≡ codes "http" = grind (arith, bytes_eq-Decides, nat_tests) in rw is refl)
    (λ h. let is : scheme ≡ codes "https" = grind (arith, bytes_eq-Decides, nat_tests) in rw is refl)
    (cases_Bool (bytes_eq scheme (codes "http")))

valid_without_fragment : (url : Parts) → IsValid url → IsValid (without_fragment url)
valid_without_fragment url v =
    let h = v.head in
    let head : IsValidHead (without_fragment url) = record { scheme = h.scheme; username = h.username; password = h.password; host = h.host; port = h.port; bare = h.bare } in
    record { head = head; path = v.path; query = v.query; fragment = tt }

web_http : (url : Parts) → is_web url ≡ true → is_http url.scheme ≡ true
web_http url web = grind arith

-- the link of a web URL's text is its link
pub own_link_text : (url : Parts) → IsValid url → is_web url ≡ true → link_of (serialize (without_fragment url)) ≡ Some (web_link url)
own_link_text url valid web =
    let kind = http_kind url.scheme (web_http url web) in
    let parsed = parse_url-serialize_special (without_fragment url) None (valid_without_fragment url valid) kind in
    ap link_of_parsed parsed ∙ ap (λ b. cond b (Some (web_link url)) None) web

own_none : (S : Scheme) → port_text S (own_port S) ≡ []
own_none Http = refl
own_none Https = refl

by_port : (scheme : List ℕ) (S : Scheme) (host rest : List ℕ) (port : Option ℕ) → default_port scheme ≡ Some (own_port S) → IsPortOf scheme port
    → host ++ (when (is_some port) (codes ":") ++ (unwrap_or (option_map decimal port) [] ++ rest)) ≡ host ++ (port_text S (unwrap_or (option_or port (default_port scheme)) 0) ++ rest)
by_port scheme S host rest None valid_link port =
    sym (ap (λ p. host ++ (port_text S (unwrap_or p 0) ++ rest)) valid_link ∙ ap (λ (t : List ℕ). host ++ (t ++ rest)) (own_none S))
by_port scheme S host rest (Some n) valid_link port =
    let other : (n == own_port S) ≡ false = ne_eqb n (own_port S) (λ same. port.1 (valid_link ∙ ap Some (sym same))) in
    ap (λ b. host ++ (cond b [] (58 ∷ decimal n) ++ rest)) (sym other)

plain_text : (url : Parts) → url.username ≡ [] → url.password ≡ [] → is_some url.host ≡ true
    → serialize (without_fragment url) ≡ url.scheme ++ (codes "://" ++ (host_text (host_or_empty url) ++ (when (is_some url.port) (codes ":") ++ (unwrap_or (option_map decimal url.port) [] ++ text_between url BeforePath AfterQuery))))
plain_text url user pass host = rw (user, pass, host) refl

host_there : (host : Option (Host (List ℕ))) → not (is_empty_host (unwrap_or host (Domain []))) ≡ true → is_some host ≡ true
host_there None h = cc
host_there (Some x) h = refl

by_scheme : (scheme : List ℕ) → is_http scheme ≡ true → (scheme ≡ scheme_text (cond (bytes_eq scheme (codes "http")) Http Https)) × (default_port scheme ≡ Some (own_port (cond (bytes_eq scheme (codes "http")) Http Https)))
unfolding default_port
by_scheme scheme web =
    ⊎_elim (λ h. let is : scheme ≡ codes "http" = grind (arith, bytes_eq-Decides, nat_tests) in rw is (refl, refl))
    (λ h. let is : scheme ≡ codes "https" = grind (arith, bytes_eq-Decides, nat_tests) in rw is (refl, refl))
    (cases_Bool (bytes_eq scheme (codes "http")))

and_both : (a b c : Bool) → (a && (b && not c)) ≡ true → (b ≡ true) × (c ≡ false)
and_both true true false h = (refl, refl)
and_both true true true h = cc
and_both true false c h = cc
and_both false b c h = cc

text_spelled : (url : Parts) → IsValid url → is_web url ≡ true → serialize (without_fragment url) ≡ spelled (web_link url)
text_spelled url valid web =
    let both = and_both (is_http url.scheme) (has_host url) (has_credentials url) web in
    let bare = no_credentials url both.1 in
    let plain = plain_text url bare.0 bare.1 (host_there url.host both.0) in
    let scheme = by_scheme url.scheme (web_http url web) in
    let port = by_port url.scheme (scheme_of url) (host_text (host_or_empty url)) (text_between url BeforePath AfterQuery) url.port scheme.1 valid.head.port in
    plain ∙ ap (λ t. url.scheme ++ (codes "://" ++ t)) port ∙ ap (λ s. s ++ (codes "://" ++ (host_text (host_or_empty url) ++ (port_text (scheme_of url) (web_link url).port ++ text_between url BeforePath AfterQuery)))) scheme.0

-- the path of a special URL begins with a slash
rooted_list : (kind : SchemeType) (path rest : List ℕ) → IsSegmentList kind path → 0 < length path → take 1 (path ++ rest) ≡ codes "/"
rooted_list kind path rest list some =
    let long = subst (λ (p : List ℕ). 0 < length p) list.joined some in
    subst (λ (p : List ℕ). take 1 (p ++ rest) ≡ codes "/") (sym list.joined) (by list.segments long)
  where
    by : (segments : List (List ℕ)) → 0 < length (join_segments segments) → take 1 (join_segments segments ++ rest) ≡ codes "/"
    by [] h = absurd (omega arith)
    by (s ∷ ss) h = refl

rooted_path : (url : Parts) (rest : List ℕ) → IsValidPath url → scheme_type url.scheme ≡ SpecialNotFile → is_some url.host ≡ true → take 1 (url.path ++ rest) ≡ codes "/"
rooted_path url rest (inl list) kind host = rooted_list (kind_of url) url.path rest list.0 (list.1 (rw kind refl))
rooted_path url rest (inr opaque) kind host = absurd (by (is_some url.host) host opaque.0)
  where
    by : (some : Bool) → some ≡ true → (not some && not (slice_index url.path 0 == slash)) ≡ true → ⊥
    by true h k = cc
    by false h k = cc

-- a web URL's link is a link
pub own_link : (url : Parts) → IsValid url → is_web url ≡ true → IsLink (web_link url)
own_link url valid web =
    let both = and_both (is_http url.scheme) (has_host url) (has_credentials url) web in
    record {
      valid_link = own_link_text url valid web;
      text = text_spelled url valid web;
      rooted = rooted_path url _ valid.path (http_kind url.scheme (web_http url web)) (host_there url.host both.0);
    }

-- two links with one text are equal in all parts
pub equal_by_text : (a b : Link) → IsLink a → IsLink b → a.text ≡ b.text → a ≡ b
equal_by_text a b x y same = some_same (sym x.valid_link ∙ ap link_of same ∙ y.valid_link)
  where
    some_same : Some a ≡ Some b → a ≡ b
    some_same h = cc

-- a base that is refused refuses the reference
pub gives_join : (base location : List ℕ) (e : ParseError) → (parse_url None base ≡ Err e) ⊎ IsOutOfRoom e → Gives {T = Parts} (Err e) (and_then (parse_url None base) (λ b. parse_url (Some b) location))
gives_join base location e h = ⊎_elim (λ refused. inl (rw refused refl)) (λ room. inr room) h

pub unwrap_now : (o : Option (Bor (List ℕ))) (x : Bor (List ℕ)) → (unwrap_or o x).now ≡ unwrap_or (option_copied o) x.now
unwrap_now None x = refl
unwrap_now (Some y) x = refl

-- the texts tell links apart
pub links_tell : Tells same_link IsLink
links_tell = record { refl' = λ u. (bytes_eq-Decides u.text u.text).1 refl; one = λ a b p q h. equal_by_text a b p q ((bytes_eq-Decides a.text b.text).0 h) }
