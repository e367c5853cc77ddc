-- The text of a link of the scheme http is visible ASCII, as each serialized URL is (URL Standard, sections 1.3, 4.4 and 4.5).
use Rattle.std.proofs.Common.{◌≡◌, ℕ, suc, ◌-◌, ◌+◌, ◌^◌, ◌<◌, ◌≤◌, Bool, true, false, cond, List, [], ◌∷◌, ◌++◌, length, take, drop, reverse, All, Option, Some, None, Ok, Err, refl, sym, ap, ◌∙◌, subst, inl, inr, arith, length-append}
use Rattle.std.specs.Prelude.{codes, not, decimal, ◌==◌, unwrap_or, option_map, filter, ◌&&◌, nat_lt, Result}
use Rattle.std.specs.List.{concat, list_all, prefix_len}
use Rattle.std.specs.Char.{is_ascii_digit}
use Rattle.std.specs.Option.{option_eq}
use Rattle.std.specs.Str.Parse.{digits_value}
use Rattle.std.proofs.lemmas.Bool.{cond_both}
use Rattle.std.proofs.lemmas.Bool.Decides.{nat_tests}
use Rattle.std.proofs.lemmas.List.{length-reverse, reverse-append}
use Rattle.std.proofs.lemmas.List.Elements.{All-append, All-cons, All-head, All-nil, All-tail, All-weaker}
use Rattle.percent_encoding.specs.declared.ascii_set.AsciiSet.{AsciiSet}
use Rattle.percent_encoding.specs.declared.ascii_set.TheConstants.{CONTROLS}
use Rattle.percent_encoding.specs.Percent.{percent_encode}
use Rattle.percent_encoding.proofs.PercentLemmas.{All-percent_encode, IsEscapeByte}
use Rattle.url.specs.declared.error.ParseError.{ParseError}
use Rattle.url.specs.declared.error.ParseError.TheVariants.{InvalidPort}
use Rattle.url.specs.declared.host.Host.{Host}
use Rattle.url.specs.declared.scheme.SchemeType.TheVariants.{SpecialNotFile}
use Rattle.url.specs.declared.sets.TheConstants.{FORBIDDEN_DOMAIN, FORBIDDEN_HOST, PATH, SPECIAL_QUERY, USERINFO}
use Rattle.url.specs.Ascii.{at_sign, colon, number_sign, question_mark, slash}
use Rattle.url.specs.Head.{with_authority}
use Rattle.url.specs.Host.{host_text, parse_special_host, IsHostOf}
use Rattle.url.specs.Input.{is_c0_control_or_space, is_empty, is_tab_or_new_line, rsplit_once, rsplit_step, split_once, strip_tabs_and_new_lines, trim_c0_control_and_space, when}
use Rattle.url.specs.Parser.{Parsed, after_double_slash, and_then, before_tail, lacks_host, parse_authority, parse_body, parse_by_scheme, parse_parts, parse_port, parse_url, skip_slashes, split_port, split_scheme, with_path, with_tail, without_default_port}
use Rattle.url.specs.Parts.{Parts, host_or_empty, kind_of, pieces, query_set, serialize}
use Rattle.url.specs.Path.{dot_count, parse_path_start, parse_segments, push_segment, segment_len, shorten_path, without_last_segment}
use Rattle.url.specs.Scheme.{default_port, is_slash, is_special, scheme_len, scheme_type}
use Rattle.url.proofs.HostLemmas.{All-host_text}
use Rattle.url.proofs.InputLemmas.{All_from_list_all, Passes, list_all_from_All}
use Rattle.url.proofs.ParsedCanonical.{before_special}
use Rattle.url.proofs.SetLemmas.{outside_pass, passes_from_kept}
use Rattle.link_uri.specs.declared.link.Link.{Link}
use Rattle.link_uri.specs.declared.link.Scheme.TheVariants.{Http}
use Rattle.link_uri.specs.Links.{IsLink, is_web, link_of_parsed, port_text, spelled, web_link, without_fragment}
use Rattle.site_core.specs.Fields.{is_digit, is_printable, is_visible}
use Rattle.site_core.proofs.Numbers.{digits-decimal}
use Rattle.site_core.proofs.ParsedUrls.{http, special_host_valid}

abbrev IsVisible : ℕ → Type 0
IsVisible b = is_visible b ≡ true

abbrev AreVisible : List ℕ → Type 0
AreVisible bytes = All IsVisible bytes

none : AreVisible []
none = All-nil IsVisible

literal : (bytes : List ℕ) → list_all is_visible bytes ≡ true → AreVisible bytes
literal = All_from_list_all is_visible

when_visible : (test : Bool) (bytes : List ℕ) → AreVisible bytes → AreVisible (when test bytes)
when_visible true bytes all = all
when_visible false bytes all = none

-- ---- escapes

between : (b : ℕ) → 33 ≤ b → b ≤ 126 → IsVisible b
between b low high = grind (arith, nat_tests)

escape_visible : (b : ℕ) → IsEscapeByte b → IsVisible b
escape_visible b (inl percent) = ap is_visible percent
escape_visible b (inr (inl digit)) = between b (omega (arith, digit.0)) (omega (arith, digit.1))
escape_visible b (inr (inr letter)) = between b (omega (arith, letter.0)) (omega (arith, letter.1))

-- what is escaped by a set that has each ASCII byte that isn't visible
escaped : (set : AsciiSet) → outside_pass set is_visible ≡ true → (bytes : List ℕ) → AreVisible (percent_encode set bytes)
escaped set outside bytes = All-percent_encode IsVisible set bytes (passes_from_kept set is_visible outside) escape_visible

abbrev query_text : AsciiSet → Option (List ℕ) → List ℕ
query_text set query = unwrap_or (option_map (percent_encode set) query) []

query_escaped : (query : Option (List ℕ)) → AreVisible (query_text SPECIAL_QUERY query)
query_escaped None = none
query_escaped (Some bytes) = escaped SPECIAL_QUERY refl bytes

-- ---- hosts and ports

other_than_space : (b : ℕ) → is_printable b ≡ true → not (b == 32) ≡ true → IsVisible b
other_than_space b printable other = grind (arith, nat_tests)

host_visible : (host : Host (List ℕ)) → IsHostOf SpecialNotFile host → AreVisible (host_text host)
host_visible host is =
    All-host_text IsVisible SpecialNotFile host
    (passes_from_kept FORBIDDEN_DOMAIN is_visible refl)
    (λ b allowed kept. other_than_space b (passes_from_kept CONTROLS is_printable refl b kept) (passes_from_kept FORBIDDEN_HOST (λ x. not (x == 32)) refl b allowed))
    (λ b digit. grind (arith, nat_tests)) (λ b hex. grind (arith, nat_tests)) refl refl is

abbrev port_digits : Option ℕ → List ℕ
port_digits port = unwrap_or (option_map decimal port) []

digits_visible : (n : ℕ) → n < 2 ^ 16 → AreVisible (decimal n)
digits_visible n small =
    All-weaker (Passes is_digit) IsVisible (λ b digit. grind (arith, nat_tests)) (decimal n) (All_from_list_all is_digit (decimal n) (digits-decimal n (omega (arith, small))))

kept_port : (n : ℕ) → n < 2 ^ 16 → AreVisible (port_digits (without_default_port http (Some n)))
unfolding default_port
kept_port n small =
    cond_both (option_eq ◌==◌ (Some n) (default_port http)) None (Some n) (λ (p : Option ℕ). AreVisible (port_digits p)) (λ _. none) (λ _. digits_visible n small)

below_from : (test : Bool) (n : ℕ) → (test && nat_lt n (2 ^ 16)) ≡ true → n < 2 ^ 16
below_from true n h = grind (arith, nat_tests)
below_from false n h = absurd cc

abbrev ok_of : {T : Type 0} → T → Result T ParseError
ok_of a = Ok a

abbrev err_of : {T : Type 0} → ParseError → Result T ParseError
err_of x = Err x

ok_same : {T : Type 0} (a b : T) → ok_of a ≡ Ok b → a ≡ b
ok_same a b e = cc

err_not : {T : Type 0} (x : ParseError) (b : T) → err_of {T = T} x ≡ Ok b → ⊥
err_not x b e = absurd cc

-- the value of a step that was not refused
step_ok : {T U : Type 0} (first : Parsed T) (next : T → Parsed U) (u : U) → and_then first next ≡ Ok u → (t : T) × (first ≡ Ok t) × (next t ≡ Ok u)
step_ok (Ok t) next u e = (t, refl, e)
step_ok (Err x) next u e = absurd cc

port_visible : (digits : List ℕ) (port : Option ℕ) → parse_port http digits ≡ Ok port → AreVisible (port_digits port)
unfolding parse_port
port_visible digits port e =
    let goal : Option ℕ → Type 0 = λ p. AreVisible (port_digits p) in
    cond_both (is_empty digits) _ _ (λ (r : Parsed (Option ℕ)). r ≡ Ok port → goal port)
    (λ _. λ same. subst goal (ok_same None port same) none)
    (λ _. cond_both (list_all is_ascii_digit digits && nat_lt (digits_value 10 digits) (2 ^ 16)) (Ok (without_default_port http (Some (digits_value 10 digits)))) (Err InvalidPort) (λ (r : Parsed (Option ℕ)). r ≡ Ok port → goal port)
    (λ fits. λ same. subst goal (ok_same (without_default_port http (Some (digits_value 10 digits))) port same) (kept_port (digits_value 10 digits) (below_from _ _ fits)))
    (λ _. λ same. absurd (err_not _ port same))) e

-- ---- paths

front_step : (b : ℕ) (front : Option (List ℕ)) (back : List ℕ) → IsVisible b → AreVisible (unwrap_or front []) → AreVisible (unwrap_or (rsplit_step slash b front back).0 [])
front_step b (Some front) back first later = All-cons IsVisible b front first later
front_step b None back first later =
    cond_both (b == slash) _ _ (λ (p : Option (List ℕ) × List ℕ). AreVisible (unwrap_or p.0 [])) (λ _. none) (λ _. none)

shortened : (path : List ℕ) → AreVisible path → AreVisible (without_last_segment path)
unfolding rsplit_once
shortened [] all = none
shortened (b ∷ path) all =
    front_step b (rsplit_once slash path).0 (rsplit_once slash path).1 (All-head IsVisible b path all) (shortened path (All-tail IsVisible b path all))

pushed : (path segment : List ℕ) (last : Bool) → AreVisible path → AreVisible (push_segment SpecialNotFile path segment last)
unfolding push_segment shorten_path
pushed path segment last all =
    let end = when_visible last (slash ∷ []) (literal (slash ∷ []) refl) in
    cond_both (dot_count segment == 2) _ _ AreVisible (λ _. All-append IsVisible _ _ (shortened path all) end)
    (λ _. cond_both (dot_count segment == 1) _ _ AreVisible (λ _. All-append IsVisible path _ all end)
    (λ _. All-append IsVisible path (slash ∷ percent_encode PATH segment) all (All-cons IsVisible slash (percent_encode PATH segment) refl (escaped PATH refl segment))))

segments_visible : (path segment bytes : List ℕ) → AreVisible path → AreVisible (parse_segments SpecialNotFile path segment bytes)
unfolding parse_segments
segments_visible path segment [] all = pushed path segment true all
segments_visible path segment (b ∷ bytes) all =
    cond_both (is_slash SpecialNotFile b) _ _ AreVisible
    (λ _. segments_visible (push_segment SpecialNotFile path segment false) [] bytes (pushed path segment false all))
    (λ _. segments_visible path (segment ++ b ∷ []) bytes all)

path_visible : (bytes : List ℕ) → AreVisible (parse_path_start SpecialNotFile [] bytes)
unfolding parse_path_start
path_visible bytes =
    cond_both (is_empty bytes && false) [] _ AreVisible (λ _. none)
    (λ _. cond_both _ _ _ AreVisible (λ _. segments_visible [] [] (drop 1 bytes) none) (λ _. segments_visible [] [] bytes none))

-- ---- URLs

-- the parts of a URL of the scheme http, all but its fragment, are visible
record HasVisibleParts (url : Parts) : Type 0 where
  scheme : url.scheme ≡ http
  username : AreVisible url.username
  password : AreVisible url.password
  host : AreVisible (host_text (host_or_empty url))
  port : AreVisible (port_digits url.port)
  path : AreVisible url.path
  query : AreVisible (unwrap_or url.query [])

authority_visible : (bytes : List ℕ) (url : Parts) → parse_authority http bytes ≡ Ok url → HasVisibleParts url
unfolding parse_authority scheme_type scheme_len default_port
authority_visible bytes url e =
    let at = rsplit_once at_sign bytes in
    let host_port = split_port at.1 in
    let userinfo = split_once colon (unwrap_or at.0 []) in
    cond_both (lacks_host at.0 host_port.0 host_port.1) _ _ (λ (r : Parsed Parts). r ≡ Ok url → HasVisibleParts url)
    (λ _. λ same. absurd (err_not _ url same))
    (λ _. λ same.
    let first = step_ok (parse_special_host host_port.0) _ url same in
    let second = step_ok (parse_port http (unwrap_or host_port.1 [])) _ url first.2 in
    let new = with_authority http userinfo.0 (unwrap_or userinfo.1 []) first.0 second.0 in
    let has : HasVisibleParts new = record {
      scheme = refl;
      username = escaped USERINFO refl userinfo.0;
      password = escaped USERINFO refl (unwrap_or userinfo.1 []);
      host = host_visible first.0 (special_host_valid host_port.0 first.0 first.1);
      port = port_visible (unwrap_or host_port.1 []) second.0 second.1;
      path = none;
      query = none;
    } in
    subst HasVisibleParts (ok_same new url second.2) has) e

double_slash_visible : (bytes : List ℕ) (url : Parts) → after_double_slash http bytes ≡ Ok url → HasVisibleParts url
unfolding after_double_slash scheme_type default_port
double_slash_visible bytes url e =
    let len = segment_len SpecialNotFile bytes in
    let first = step_ok (parse_authority http (take len bytes)) _ url e in
    let head = authority_visible (take len bytes) first.0 first.1 in
    let new = with_path first.0 (parse_path_start SpecialNotFile [] (drop len bytes)) in
    let has : HasVisibleParts new = record {
      scheme = head.scheme;
      username = head.username;
      password = head.password;
      host = head.host;
      port = head.port;
      path = path_visible (drop len bytes);
      query = head.query;
    } in
    subst HasVisibleParts (ok_same new url first.2) has

tail_visible : (url : Parts) (query fragment : Option (List ℕ)) → kind_of url ≡ SpecialNotFile → HasVisibleParts url → HasVisibleParts (with_tail url query fragment)
tail_visible url query fragment kind has = record {
  scheme = has.scheme;
  username = has.username;
  password = has.password;
  host = has.host;
  port = has.port;
  path = has.path;
  query = subst (λ (set : AsciiSet). AreVisible (query_text set query)) (sym (ap query_set kind)) (query_escaped query);
}

-- ---- what is trimmed and removed stands behind the scheme

stops_within : (test : ℕ → Bool) (xs ys : List ℕ) (y : ℕ) → test y ≡ false → prefix_len test (xs ++ y ∷ ys) ≤ length xs
stops_within test [] ys y stops = rw stops (omega arith)
stops_within test (x ∷ xs) ys y stops =
    let later = stops_within test xs ys y stops in
    elim (test x) as (λ t. cond t (1 + prefix_len test (xs ++ y ∷ ys)) 0 ≤ length (x ∷ xs)) [ true ↦ omega (arith, later) | false ↦ omega arith ]

trimmed : (rest : List ℕ) → (front : List ℕ) × (trim_c0_control_and_space (codes "http://" ++ rest) ≡ codes "http://" ++ front)
unfolding trim_c0_control_and_space
trimmed rest =
    let text = codes "http://" ++ rest in
    let past = prefix_len is_c0_control_or_space (reverse text) in
    let behind : prefix_len is_c0_control_or_space (reverse rest ++ reverse (codes "http://")) ≤ length (reverse rest) = stops_within is_c0_control_or_space (reverse rest) (reverse (codes "http:/")) slash refl in
    let same : past ≡ prefix_len is_c0_control_or_space (reverse rest ++ reverse (codes "http://")) = ap (prefix_len is_c0_control_or_space) (reverse-append (codes "http://") rest) in
    let within : past ≤ length rest = omega (arith, behind, same, length-reverse rest) in
    let left = length rest - past in
    let size : length text - past ≡ suc (suc (suc (suc (suc (suc (suc left)))))) = omega (arith, length-append (codes "http://") rest, within) in
    (take left rest, ap (λ n. take n text) size)

stripped : (rest : List ℕ) → (front : List ℕ) × (strip_tabs_and_new_lines (trim_c0_control_and_space (codes "http://" ++ rest)) ≡ codes "http://" ++ front)
unfolding strip_tabs_and_new_lines
stripped rest =
    let front = trimmed rest in
    (filter (λ b. not (is_tab_or_new_line b)) front.0, ap strip_tabs_and_new_lines front.1)

-- what is parsed of a text that begins as a URL of the scheme http
parsed_visible : (rest : List ℕ) (url : Parts) → parse_url None (codes "http://" ++ rest) ≡ Ok url → HasVisibleParts url
unfolding parse_url split_once split_scheme scheme_len parse_parts parse_body scheme_type default_port
parsed_visible rest url e =
    let plain = stripped rest in
    let P : List ℕ → Type 0 = λ bs. parse_by_scheme (split_scheme (split_once question_mark (split_once number_sign bs).0).0) None (split_once question_mark (split_once number_sign bs).0).0 (split_once question_mark (split_once number_sign bs).0).1 (split_once number_sign bs).1 ≡ Ok url in
    let here = subst P plain.1 e in
    let hash = split_once number_sign plain.0 in
    let question = split_once question_mark hash.0 in
    let body = codes "//" ++ question.0 in
    let parsed = step_ok (after_double_slash http (skip_slashes body)) _ url here in
    let has = double_slash_visible (skip_slashes body) parsed.0 parsed.1 in
    let of_kind : kind_of parsed.0 ≡ SpecialNotFile = ap scheme_type has.scheme in
    let before : before_tail parsed.0 question.1 hash.1 ≡ parsed.0 = before_special parsed.0 question.1 hash.1 (ap is_special of_kind) in
    let is : with_tail (before_tail parsed.0 question.1 hash.1) question.1 hash.1 ≡ url = ok_same _ url parsed.2 in
    let whole : with_tail parsed.0 question.1 hash.1 ≡ url = ap (λ (u : Parts). with_tail u question.1 hash.1) (sym before) ∙ is in
    subst HasVisibleParts whole (tail_visible parsed.0 question.1 hash.1 of_kind has)

-- ---- texts

abbrev EachVisible : List (List ℕ) → Type 0
EachVisible [] = Unit {0}
EachVisible (x ∷ xs) = AreVisible x × EachVisible xs

concat_visible : (xs : List (List ℕ)) → EachVisible xs → AreVisible (concat xs)
concat_visible [] each = none
concat_visible (x ∷ xs) each = All-append IsVisible x (concat xs) each.0 (concat_visible xs each.1)

slashes_visible : (test : Bool) → AreVisible (cond test (codes "://") (codes ":"))
slashes_visible true = literal (codes "://") refl
slashes_visible false = literal (codes ":") refl

text_visible : (url : Parts) → HasVisibleParts url → AreVisible (serialize (without_fragment url))
text_visible url has =
    let mark : (test : Bool) (b : ℕ) → IsVisible b → AreVisible (when test (b ∷ [])) = λ test b is. when_visible test (b ∷ []) (All-cons IsVisible b [] is none) in
    let scheme : AreVisible url.scheme = subst AreVisible (sym has.scheme) (literal http refl) in
    let guard = when_visible _ (codes "/.") (literal (codes "/.") refl) in
    let tail : EachVisible (drop 9 (pieces (without_fragment url))) = (guard, (has.path, (mark _ 63 refl, (has.query, (none, (none, tt)))))) in
    concat_visible (pieces (without_fragment url)) (scheme, (slashes_visible _, (has.username, (mark _ 58 refl, (has.password, (mark _ 64 refl, (has.host, (mark _ 58 refl, (has.port, tail)))))))))

-- ---- links

linked : (url : Parts) (link : Link) (web : Bool) → cond web (Some (web_link url)) None ≡ Some link → web_link url ≡ link
linked url link true e = cc
linked url link false e = absurd cc

parsed_as : (parsed : Parsed Parts) (link : Link) → link_of_parsed parsed ≡ Some link → (url : Parts) × (parsed ≡ Ok url) × (web_link url ≡ link)
parsed_as (Ok url) link e = (url, refl, linked url link (is_web url) e)
parsed_as (Err x) link e = absurd cc

pub link_visible : (link : Link) → IsLink link → link.scheme ≡ Http → list_all is_visible link.text ≡ true
link_visible link is scheme =
    let rest = link.host ++ (port_text Http link.port ++ link.target) in
    let text : link.text ≡ codes "http://" ++ rest = is.text ∙ ap (λ s. spelled (record link { scheme = s })) scheme in
    let found = parsed_as (parse_url None link.text) link is.valid_link in
    let has = parsed_visible rest found.0 (subst (λ bs. parse_url None bs ≡ Ok found.0) text found.1) in
    list_all_from_All is_visible link.text (subst AreVisible (ap (λ (l : Link). l.text) found.2) (text_visible found.0 has))
