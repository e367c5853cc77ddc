-- A link that a site has can be asked for.
use Rattle.std.proofs.Common.{◌≡◌, ℕ, true, false, cond, List, [], ◌∷◌, Option, Some, None, refl, sym, ap, ◌∙◌, arith}
use Rattle.std.specs.Prelude.{bytes_eq, ◌&&◌}
use Rattle.std.specs.List.{list_all}
use Rattle.std.specs.Map.{lookup}
use Rattle.std.proofs.lemmas.Bool.{and_parts}
use Rattle.std.proofs.lemmas.Bool.Decides.{nat_tests}
use Rattle.std.proofs.lemmas.Slice.Eq.{bytes_eq-Decides}
use Rattle.link_uri.specs.declared.link.Link.{Link}
use Rattle.link_uri.specs.declared.link.Scheme.{Scheme}
use Rattle.link_uri.specs.declared.link.Scheme.TheVariants.{Http, Https}
use Rattle.link_uri.specs.declared.heard.Reply.{Reply}
use Rattle.link_uri.specs.Links.{IsLink, link_of}
use Rattle.site_core.specs.Fields.{is_visible, is_http, is_own_http, is_site_link}
use Rattle.site_core.specs.Text.{Entry, SiteText, comes_after, is_reply, is_site_from}
use Rattle.client_server.specs.Agreement.{IsAskable}
use Rattle.client_server.proofs.Visible.{link_visible}

same_text : (a b : List ℕ) → bytes_eq a b ≡ true → a ≡ b
same_text a b e = grind (arith, bytes_eq-Decides, nat_tests)

-- the text of a link that is found stands in the site
site_link : (text : List ℕ) (before : Option (List ℕ)) (es : List Entry) (reply : Reply) → is_site_from before es ≡ true → lookup (bytes_eq text) es ≡ Some reply → is_site_link text ≡ true
site_link text before [] reply site e = absurd cc
site_link text before (entry ∷ es) reply site e =
    let parts = and_parts (comes_after before entry.0 && (is_site_link entry.0 && is_reply entry.1)) (is_site_from (Some entry.0) es) site in
    let own = (and_parts (is_site_link entry.0) (is_reply entry.1) (and_parts (comes_after before entry.0) (is_site_link entry.0 && is_reply entry.1) parts.0).1).0 in
    elim (bytes_eq text entry.0) as (λ t. bytes_eq text entry.0 ≡ t → cond t (Some entry.1) (lookup (bytes_eq text) es) ≡ Some reply → is_site_link text ≡ true) [
      | true ↦ λ same. λ _. ap is_site_link (same_text text entry.0 same) ∙ own
      | false ↦ λ _. λ later. site_link text (Some entry.0) es reply parts.1 later
    ] refl e

http_scheme : (scheme : Scheme) → is_http scheme ≡ true → scheme ≡ Http
http_scheme Http e = refl
http_scheme Https e = absurd cc

own_scheme : (link : Link) → link_of link.text ≡ Some link → is_own_http link.text (link_of link.text) ≡ true → link.scheme ≡ Http
own_scheme link own e =
    let found : is_own_http link.text (Some link) ≡ true = ap (is_own_http link.text) (sym own) ∙ e in
    http_scheme link.scheme (and_parts (is_http link.scheme) (bytes_eq link.text link.text) found).0

pub askable : (site : List Entry) (text : List ℕ) (link : Link) (reply : Reply) → SiteText site text → IsLink link → lookup (bytes_eq link.text) site ≡ Some reply → IsAskable link
unfolding is_site_link
askable site text link reply is link_is found =
    let own = site_link link.text None site reply is.site found in
    let parts = and_parts (list_all is_visible link.text) (is_own_http link.text (link_of link.text)) own in
    record { is_link = link_is; http = own_scheme link link_is.valid_link parts.1; visible = parts.0 }

-- each link of the scheme http can be asked for
pub http_askable : (link : Link) → IsLink link → link.scheme ≡ Http → IsAskable link
http_askable link is http = record { is_link = is; http = http; visible = link_visible link is http }
