-- What the parser gives for a text of the scheme http is a valid URL (URL Standard, sections 3.5 and 4.4).
use Rattle.std.proofs.Common.{◌≡◌, ℕ, zero, suc, ◌+◌, ◌-◌, ◌*◌, ◌^◌, ◌<◌, ◌≤◌, Bool, true, false, List, [], ◌∷◌, ◌++◌, length, get_or, take, drop, replicate, All, Option, Some, None, Ok, Err, refl, sym, ap, ◌∙◌, subst, inl, inr, arith, lit≤, lit<, length-append}
use Rattle.std.specs.Prelude.{codes, not, ◌==◌, unwrap_or, ◌&&◌, ◌||◌, nat_lt, Result}
use Rattle.std.specs.List.{list_all, list_any, prefix_len}
use Rattle.std.specs.Int.{w32, to_be_bytes}
use Rattle.std.specs.Net.Addr.{segments_of}
use Rattle.std.specs.Net.Grammar.{IsGroup, IsGroupsAfter, IsColonHex}
use Rattle.std.specs.Net.Reader.{whole_value, read_ipv6}
use Rattle.std.proofs.NetLemmas.Ipv6.{read_ipv6_sound}
use Rattle.std.proofs.NetLemmas.Texts.{AllSegments}
use Rattle.std.proofs.lemmas.Int.Digits.{digits_value-lt}
use Rattle.std.proofs.lemmas.Bool.{cond_both, cond-false}
use Rattle.std.proofs.lemmas.Bool.Decides.{nat_tests}
use Rattle.std.proofs.lemmas.Option.{same_Some}
use Rattle.std.proofs.lemmas.List.{length-replicate, length-reverse, get_or-reverse}
use Rattle.std.proofs.Math.Nat.{pow-le-pow_right, sub-zero}
use Rattle.url.specs.declared.host.Host.{Host}
use Rattle.url.specs.declared.host.Host.TheVariants.{Domain, Ipv4, Ipv6}
use Rattle.url.specs.declared.error.ParseError.{ParseError}
use Rattle.url.specs.declared.scheme.SchemeType.TheVariants.{SpecialNotFile}
use Rattle.url.specs.Input.{is_empty, is_c0_control_or_space, is_tab_or_new_line, trim_c0_control_and_space, strip_tabs_and_new_lines}
use Rattle.url.specs.Ipv4.{ends_in_a_number}
use Rattle.url.specs.Ascii.{left_bracket, right_bracket, at_sign, colon, number_sign, question_mark}
use Rattle.url.specs.Scheme.{is_special, scheme_type, is_slash, default_port, scheme_len}
use Rattle.url.specs.Path.{segment_len, parse_segments, parse_path, parse_path_start, push_segment, IsSegmentList}
use Rattle.url.specs.Head.{with_authority}
use Rattle.url.specs.Parts.{Parts, kind_of, IsPortOf, IsValidHead, IsValidPath, IsValid}
use Rattle.url.specs.Parser.{Parsed, and_then, split_port, without_default_port, parse_port, lacks_host, parse_authority, with_path, after_double_slash, skip_slashes, before_tail, with_tail, parse_parts, parse_body, split_scheme, parse_by_scheme, parse_url}
use Rattle.url.specs.Input.{split_once, rsplit_once}
use Rattle.std.specs.Char.{is_ascii_digit}
use Rattle.std.specs.Str.Parse.{digits_value}
use Rattle.std.specs.Option.{option_eq}
use Rattle.std.proofs.lemmas.List.Elements.{All-weaker, All-cons, All-nil, All-head, All-tail, All-push, All-drop}
use Rattle.percent_encoding.proofs.PercentLemmas.{IsByte}
use Rattle.url.proofs.PathLemmas.{IsNoSlash, no_segments, push_segment_valid, push_last_nonempty}
use Rattle.url.proofs.SetterLemmas.{valid_with_authority}
use Rattle.url.proofs.LayoutLemmas.{IsValidHead_same}
use Rattle.url.proofs.ParsedCanonical.{before_special}
use Rattle.url.proofs.ValidLemmas.{IsValid-with_tail}
use Rattle.url.proofs.InputLemmas.{Passes, filter_all}
use Rattle.std.proofs.Common.{reverse, take_all}
use Rattle.std.proofs.lemmas.Bool.{lt-leb}
use Rattle.std.specs.Prelude.{slice_range, slice_index}
use Rattle.url.specs.declared.error.ParseError.TheVariants.{InvalidIpv6Address, InvalidPort}
use Rattle.url.specs.Host.{ascii_domain, host_of_ascii, ipv4_host, ipv6_host, is_forbidden_in_domain, parse_bracketed, parse_domain, parse_special_host, is_empty_host, IsHostOf}
use Rattle.percent_encoding.specs.Percent.{percent_decode}
use Rattle.url.proofs.HostLemmas.{ascii_domain-lower, none_from_list_any}

-- ---- addresses

small_segment : (group : List ℕ) (s : ℕ) → IsGroup group s → s < 2 ^ 16
small_segment group s h =
    let below = digits_value-lt 16 group h.0.0.1 in
    let most : 16 ^ length group ≤ 16 ^ 4 = pow-le-pow_right (lit≤ tt) h.1 in
    omega (arith, h.0.1)

segments-cons : (s : ℕ) (xs : List ℕ) → s < 2 ^ 16 → AllSegments xs → AllSegments (s ∷ xs)
segments-cons s xs h later k = elim k as (λ j. get_or (s ∷ xs) j 0 < 2 ^ 16) [ zero ↦ h | suc j ↦ later j ]

segments-nil : AllSegments []
segments-nil k = lit< tt

segments-append : (xs ys : List ℕ) → AllSegments xs → AllSegments ys → AllSegments (xs ++ ys)
segments-append [] ys h later = later
segments-append (x ∷ xs) ys h later = segments-cons x (xs ++ ys) (h 0) (segments-append xs ys (λ k. h (suc k)) later)

segments-zeros : (n : ℕ) → AllSegments (replicate n 0)
segments-zeros zero = segments-nil
segments-zeros (suc n) = segments-cons 0 (replicate n 0) (lit< tt) (segments-zeros n)

small_groups : (ipv4 : Bool) (lead text segments : List ℕ) → IsGroupsAfter ipv4 lead text segments → AllSegments segments
small_groups ipv4 lead text [] h = segments-nil
small_groups ipv4 lead text (s ∷ segments) (inl h) = segments-cons s segments (small_segment h.0 s h.3) (small_groups ipv4 (codes ":") h.1 segments h.4)
small_groups ipv4 lead text (s ∷ segments) (inr h) =
    let dotted = h.4 in
    let two : s ∷ segments ≡ segments_of (dotted.a ∷ dotted.b ∷ dotted.c ∷ dotted.d ∷ []) = h.5 ∙ ap segments_of dotted.value in
    let fit = dotted.fit in
    subst AllSegments (sym two) (segments-cons (dotted.a * 256 + dotted.b) ((dotted.c * 256 + dotted.d) ∷ []) (omega (arith, fit)) (segments-cons (dotted.c * 256 + dotted.d) [] (omega (arith, fit)) segments-nil))

colon_hex_valid : (text segments : List ℕ) → IsColonHex text segments → (length segments ≡ 8) × AllSegments segments
colon_hex_valid text segments (inl whole) = (whole.1, small_groups true [] text segments whole.0)
colon_hex_valid text segments (inr elided) =
    let n = 8 - length elided.head - length elided.tail in
    let both : List ℕ → Type 0 = λ bs. (length bs ≡ 8) × AllSegments bs in
    let room = elided.room in
    subst both (sym elided.value) (
      omega (arith, length-append (elided.head ++ replicate n 0) elided.tail, length-append elided.head (replicate n 0), length-replicate {A = ℕ} n 0),
      segments-append (elided.head ++ replicate n 0) elided.tail
          (segments-append elided.head (replicate n 0) (small_groups false [] elided.head_text elided.head elided.head_groups) (segments-zeros n))
          (small_groups true [] elided.tail_text elided.tail elided.tail_groups),
    )

abbrev ok_of : {T : Type 0} → T → Result T ParseError
ok_of a = Ok a

abbrev err_of : {T : Type 0} → ParseError → Result T ParseError
err_of x = Err x

ok_same : {T : Type 0} (a b : T) → ok_of a ≡ Ok b → a ≡ b
ok_same a b e = cc

err_not : {T : Type 0} (x : ParseError) (b : T) → err_of {T = T} x ≡ Ok b → ⊥
err_not x b e = absurd cc

bracketed_by : (text : List ℕ) (found : Option (List ℕ)) (h : Host (List ℕ)) → whole_value (read_ipv6 text) ≡ found → ipv6_host found ≡ Ok h → IsHostOf SpecialNotFile h
bracketed_by text None h is e = absurd cc
bracketed_by text (Some segments) h is e =
    let host : Ipv6 (record { segments = segments }) ≡ h = cc in
    subst (IsHostOf SpecialNotFile) host (by (read_ipv6 text) refl is)
  where
    by : (r : Option (List ℕ × List ℕ)) → read_ipv6 text ≡ r → whole_value r ≡ Some segments → (length segments ≡ 8) × AllSegments segments
    by None e w = absurd cc
    by (Some p) e w =
        let sound = read_ipv6_sound text p.0 p.1 e in
        cond_both (length p.1 == 0) (Some p.0) None (λ o. o ≡ Some segments → (length segments ≡ 8) × AllSegments segments)
        (λ _. λ same. subst (λ (s : List ℕ). (length s ≡ 8) × AllSegments s) (same_Some p.0 segments same) (colon_hex_valid sound.0 p.0 sound.2))
        (λ _. λ same. absurd cc) w

bracketed_valid : (bytes : List ℕ) (h : Host (List ℕ)) → parse_bracketed bytes ≡ Ok h → IsHostOf SpecialNotFile h
unfolding parse_bracketed
bracketed_valid bytes h e =
    let inner = slice_range bytes 1 (length bytes - 1) in
    cond_both (slice_index bytes (length bytes - 1) == right_bracket) (ipv6_host (whole_value (read_ipv6 inner))) (Err InvalidIpv6Address) (λ (r : Result (Host (List ℕ)) ParseError). r ≡ Ok h → IsHostOf SpecialNotFile h)
    (λ _. λ same. bracketed_by inner (whole_value (read_ipv6 inner)) h refl same)
    (λ _. λ same. absurd (err_not InvalidIpv6Address h same))
    e

ipv4_by : (found : Option ℕ) (h : Host (List ℕ)) → ipv4_host found ≡ Ok h → IsHostOf SpecialNotFile h
ipv4_by None h e = absurd cc
ipv4_by (Some bits) h e =
    let host : Ipv4 (record { octets = to_be_bytes w32 bits }) ≡ h = cc in
    subst (IsHostOf SpecialNotFile) host (refl, octets)
  where
    octets : (k : ℕ) → get_or (to_be_bytes w32 bits) k 0 < 2 ^ 8
    octets zero = omega arith
    octets (suc zero) = omega arith
    octets (suc (suc zero)) = omega arith
    octets (suc (suc (suc zero))) = omega arith
    octets (suc (suc (suc (suc k)))) = lit< tt

-- ---- domains

domain_by : (bytes : List ℕ) (found : Option (List ℕ)) (h : Host (List ℕ)) → ascii_domain bytes ≡ found → host_of_ascii found ≡ Ok h → IsHostOf SpecialNotFile h
domain_by bytes None h is e = absurd cc
domain_by bytes (Some domain) h is e =
    cond_both (is_empty domain) _ _ (λ (r : Result (Host (List ℕ)) ParseError). r ≡ Ok h → IsHostOf SpecialNotFile h)
    (λ _. λ e. absurd cc)
    (λ some. cond_both (list_any is_forbidden_in_domain domain) _ _ (λ (r : Result (Host (List ℕ)) ParseError). r ≡ Ok h → IsHostOf SpecialNotFile h)
    (λ _. λ e. absurd cc)
    (λ none. cond_both (ends_in_a_number domain) _ _ (λ (r : Result (Host (List ℕ)) ParseError). r ≡ Ok h → IsHostOf SpecialNotFile h)
    (λ _. λ e. ipv4_by _ h e)
    (λ named. λ e.
    let host : Domain domain ≡ h = cc in
    let allowed = none_from_list_any is_forbidden_in_domain domain none in
    subst (IsHostOf SpecialNotFile) host (record { allowed = allowed; lower = ascii_domain-lower bytes domain is; named = named }, grind (arith, nat_tests))))) e

pub special_host_valid : (bytes : List ℕ) (h : Host (List ℕ)) → parse_special_host bytes ≡ Ok h → IsHostOf SpecialNotFile h
unfolding parse_special_host
special_host_valid bytes h e =
    cond_both (slice_index bytes 0 == left_bracket) (parse_bracketed bytes) (parse_domain (percent_decode bytes)) (λ (r : Result (Host (List ℕ)) ParseError). r ≡ Ok h → IsHostOf SpecialNotFile h)
    (λ _. λ same. bracketed_valid bytes h same)
    (λ _. λ same. domain_by (percent_decode bytes) (ascii_domain (percent_decode bytes)) h refl same)
    e

-- ---- paths

segments_valid : (path segment bytes : List ℕ) → IsSegmentList SpecialNotFile path → All IsByte segment → All (IsNoSlash SpecialNotFile) segment → All IsByte bytes
    → IsSegmentList SpecialNotFile (parse_segments SpecialNotFile path segment bytes) × (0 < length (parse_segments SpecialNotFile path segment bytes))
unfolding parse_segments
segments_valid path segment [] list small whole rest = (push_segment_valid SpecialNotFile path segment true small whole list, push_last_nonempty SpecialNotFile path segment)
segments_valid path segment (b ∷ bytes) list small whole rest =
    let later = All-tail IsByte b bytes rest in
    cond_both (is_slash SpecialNotFile b) _ _ (λ (p : List ℕ). IsSegmentList SpecialNotFile p × (0 < length p))
    (λ _. segments_valid (push_segment SpecialNotFile path segment false) [] bytes (push_segment_valid SpecialNotFile path segment false small whole list) (All-nil IsByte) (All-nil (IsNoSlash SpecialNotFile)) later)
    (λ other. segments_valid path (segment ++ b ∷ []) bytes list (All-push IsByte segment b small (All-head IsByte b bytes rest)) (All-push (IsNoSlash SpecialNotFile) segment b whole other) later)

path_valid : (bytes : List ℕ) → All IsByte bytes → IsSegmentList SpecialNotFile (parse_path SpecialNotFile [] bytes) × (0 < length (parse_path SpecialNotFile [] bytes))
path_valid bytes rest = segments_valid [] [] bytes (no_segments SpecialNotFile) (All-nil IsByte) (All-nil (IsNoSlash SpecialNotFile)) rest

path_start_valid : (bytes : List ℕ) → All IsByte bytes → IsSegmentList SpecialNotFile (parse_path_start SpecialNotFile [] bytes) × (0 < length (parse_path_start SpecialNotFile [] bytes))
unfolding parse_path_start
path_start_valid bytes rest =
    cond_both (is_empty bytes && false) [] _ (λ (p : List ℕ). IsSegmentList SpecialNotFile p × (0 < length p))
    (λ h. absurd (grind arith))
    (λ _. cond_both _ _ _ (λ (p : List ℕ). IsSegmentList SpecialNotFile p × (0 < length p)) (λ _. path_valid (drop 1 bytes) (All-drop IsByte 1 bytes rest)) (λ _. path_valid bytes rest))

-- ---- the authority

abbrev pub http : List ℕ
http = codes "http"

kept_port : (n : ℕ) → n < 2 ^ 16 → IsPortOf http (without_default_port http (Some n))
unfolding default_port
kept_port n small =
    cond_both (option_eq ◌==◌ (Some n) (default_port http)) None (Some n) (IsPortOf http) (λ _. tt) (λ other. (small, λ same. (let eighty : n ≡ 80 = cc in absurd (grind (arith, nat_tests)))))

below_from : (test : Bool) (n : ℕ) → (test && nat_lt n (2 ^ 16)) ≡ true → n < 2 ^ 16
below_from true n h = grind (arith, nat_tests)
below_from false n h = absurd cc

port_valid : (digits : List ℕ) (port : Option ℕ) → parse_port http digits ≡ Ok port → IsPortOf http port
unfolding parse_port
port_valid digits port e =
    cond_both (is_empty digits) _ _ (λ (r : Parsed (Option ℕ)). r ≡ Ok port → IsPortOf http port)
    (λ _. λ same. (let none = ok_same None port same in subst (IsPortOf http) none tt))
    (λ _. cond_both (list_all is_ascii_digit digits && nat_lt (digits_value 10 digits) (2 ^ 16)) (Ok (without_default_port http (Some (digits_value 10 digits)))) (Err InvalidPort) (λ (r : Parsed (Option ℕ)). r ≡ Ok port → IsPortOf http port)
    (λ fits. λ same. (let is = ok_same (without_default_port http (Some (digits_value 10 digits))) port same in subst (IsPortOf http) is (kept_port (digits_value 10 digits) (below_from _ _ fits))))
    (λ _. λ same. absurd (err_not _ port same))) e

-- the value of a step that was not refused
step_ok : {T U : Type 0} (first : Parsed T) (next : T → Parsed U) (u : U) → and_then first next ≡ Ok u → (t : T) × (first ≡ Ok t) × (next t ≡ Ok u)
step_ok (Ok t) next u e = (t, refl, e)
step_ok (Err x) next u e = absurd cc

pub not_empty : (h : Host (List ℕ)) → IsHostOf SpecialNotFile h → (is_empty_host h || false) ≡ true → ⊥
not_empty (Domain domain) valid empty = let some = valid.1 in grind (arith, nat_tests)
not_empty (Ipv4 address) valid empty = absurd cc
not_empty (Ipv6 address) valid empty = absurd cc

abbrev IsHead : Parts → Type 0
IsHead url = IsValidHead url × (url.scheme ≡ http) × (url.fragment ≡ None) × (url.query ≡ None)

authority_valid : (bytes : List ℕ) (url : Parts) → parse_authority http bytes ≡ Ok url → IsHead url
unfolding parse_authority scheme_type scheme_len default_port
authority_valid bytes url e =
    let at = rsplit_once at_sign bytes in
    let host_port = split_port at.1 in
    let userinfo = split_once colon (unwrap_or at.0 []) in
    cond_both (lacks_host at.0 host_port.0 host_port.1) _ _ (λ (r : Parsed Parts). r ≡ Ok url → IsHead url)
    (λ _. λ same. absurd (err_not _ url same))
    (λ _. λ same.
    let first = step_ok (parse_special_host host_port.0) _ url same in
    let second = step_ok (parse_port http (unwrap_or host_port.1 [])) _ url first.2 in
    let host = special_host_valid host_port.0 first.0 first.1 in
    let head = valid_with_authority http userinfo.0 (unwrap_or userinfo.1 []) first.0 second.0 (record { nonempty = omega arith; whole = refl; lower = refl }) host (port_valid (unwrap_or host_port.1 []) second.0 second.1) (λ empty. absurd (not_empty first.0 host empty)) in
    let is = ok_same (with_authority http userinfo.0 (unwrap_or userinfo.1 []) first.0 second.0) url second.2 in
    subst IsHead is (head, refl, refl, refl)) e

-- ---- nothing is trimmed or removed

abbrev pub IsVisibleByte : ℕ → Type 0
IsVisibleByte b = (32 < b) × (b < 128)

none_in_front : (xs : List ℕ) → (0 < length xs → 32 < get_or xs 0 0) → prefix_len is_c0_control_or_space xs ≡ 0
none_in_front [] first = refl
none_in_front (x ∷ xs) first = cond-false _ _ _ (lt-leb x 32 (first (omega arith)))

untrimmed : (xs : List ℕ) → All IsVisibleByte xs → trim_c0_control_and_space xs ≡ xs
unfolding trim_c0_control_and_space
untrimmed xs all =
    let start = none_in_front xs (λ inside. (all 0 0 inside).0) in
    let len = length-reverse xs in
    let end = none_in_front (reverse xs) (λ inside. rw (get_or-reverse xs 0 0 (omega arith), sub-zero) ((all (length xs - 1) 0 (omega arith)).0)) in
    rw (start, end) (take_all _ xs (omega arith))

unstripped : (xs : List ℕ) → All IsVisibleByte xs → strip_tabs_and_new_lines xs ≡ xs
unfolding strip_tabs_and_new_lines
unstripped xs all = filter_all _ xs (All-weaker IsVisibleByte (Passes (λ b. not (is_tab_or_new_line b))) (λ b above. grind (arith, nat_tests)) xs all)

split_visible : (mark : ℕ) (xs : List ℕ) → All IsVisibleByte xs → All IsVisibleByte (split_once mark xs).0
unfolding split_once
split_visible mark [] all = All-nil IsVisibleByte
split_visible mark (x ∷ xs) all =
    let later = split_visible mark xs (All-tail IsVisibleByte x xs all) in
    cond_both (x == mark) _ _ (λ (p : List ℕ × Option (List ℕ)). All IsVisibleByte p.0) (λ _. All-nil IsVisibleByte)
    (λ _. All-cons IsVisibleByte x (split_once mark xs).0 (All-head IsVisibleByte x xs all) later)

-- ---- the whole

double_slash_valid : (bytes : List ℕ) (url : Parts) → All IsVisibleByte bytes → after_double_slash http bytes ≡ Ok url
    → IsValidHead url × IsValidPath url × (url.scheme ≡ http)
unfolding after_double_slash scheme_type default_port
double_slash_valid bytes url small e =
    let len = segment_len SpecialNotFile bytes in
    let first = step_ok (parse_authority http (take len bytes)) _ url e in
    let head = authority_valid (take len bytes) first.0 first.1 in
    let path = path_start_valid (drop len bytes) (All-weaker IsVisibleByte IsByte (λ b h. omega (arith, h.1)) (drop len bytes) (All-drop IsVisibleByte len bytes small)) in
    let new = with_path first.0 (parse_path_start SpecialNotFile [] (drop len bytes)) in
    let is = ok_same new url first.2 in
    let of_kind : kind_of first.0 ≡ SpecialNotFile = ap scheme_type head.1 in
    let valid : IsValidHead new × IsValidPath new × (new.scheme ≡ http) = (IsValidHead_same first.0 new refl head.0, inl (subst (λ k. IsSegmentList k new.path) (sym of_kind) path.0, λ _. path.1), head.1) in
    subst (λ (u : Parts). IsValidHead u × IsValidPath u × (u.scheme ≡ http)) is valid

-- a text that begins as a web URL of the scheme http, if it is parsed at all, is parsed to a valid one
pub http_valid : (rest : List ℕ) (url : Parts) → All IsVisibleByte (codes "http://" ++ rest) → parse_url None (codes "http://" ++ rest) ≡ Ok url → IsValid url × (url.scheme ≡ http)
unfolding parse_url split_once split_scheme scheme_len parse_parts parse_body scheme_type default_port
http_valid rest url all e =
    let text = codes "http://" ++ rest in
    let plain : strip_tabs_and_new_lines (trim_c0_control_and_space text) ≡ text = ap strip_tabs_and_new_lines (untrimmed text all) ∙ unstripped text all in
    let P : List ℕ → Type 0 = λ bs. parse_by_scheme (split_scheme (split_once question_mark (split_once number_sign bs).0).0) None (split_once question_mark (split_once number_sign bs).0).0 (split_once question_mark (split_once number_sign bs).0).1 (split_once number_sign bs).1 ≡ Ok url in
    let here = subst P plain e in
    let hash = split_once number_sign rest in
    let question = split_once question_mark hash.0 in
    let body = codes "//" ++ question.0 in
    let parsed = step_ok (after_double_slash http (skip_slashes body)) _ url here in
    let visible = split_visible question_mark (split_once number_sign rest).0 (split_visible number_sign rest (All-drop IsVisibleByte 7 text all)) in
    let valid = double_slash_valid (skip_slashes body) parsed.0 (All-drop IsVisibleByte _ body (All-cons IsVisibleByte 47 (47 ∷ question.0) (lit< tt, lit< tt) (All-cons IsVisibleByte 47 question.0 (lit< tt, lit< tt) visible))) parsed.1 in
    let of_kind : kind_of parsed.0 ≡ SpecialNotFile = ap scheme_type valid.2 in
    let before : before_tail parsed.0 question.1 hash.1 ≡ parsed.0 = before_special parsed.0 question.1 hash.1 (ap is_special of_kind) in
    let is : with_tail (before_tail parsed.0 question.1 hash.1) question.1 hash.1 ≡ url = ok_same _ url parsed.2 in
    let whole : with_tail parsed.0 question.1 hash.1 ≡ url = ap (λ (u : Parts). with_tail u question.1 hash.1) (sym before) ∙ is in
    subst (λ (u : Parts). IsValid u × (u.scheme ≡ http)) whole (IsValid-with_tail parsed.0 question.1 hash.1 valid.0 valid.1, valid.2)
