-- The reply of a site for a link, and the response that sends it.
use Rattle.std.proofs.Common.{◌≡◌, ℕ, ◌≤◌, Bool, true, false, cond, List, [], ◌∷◌, ◌++◌, length, Option, Some, None, refl, sym, ap, ◌∙◌, arith, append-nil, length-append}
use Rattle.std.specs.Prelude.{codes, decimal, bytes_eq, ◌&&◌, flat_map, unwrap_or}
use Rattle.std.specs.Map.{lookup}
use Rattle.std.proofs.lemmas.Bool.{and_parts}
use Rattle.link_uri.specs.declared.link.Link.{Link}
use Rattle.link_uri.specs.declared.heard.Reply.{Reply}
use Rattle.http_message.specs.Request.{request_text, target_of}
use Rattle.site_core.specs.Fields.{is_site_link}
use Rattle.site_core.specs.Lines.{bare}
use Rattle.site_core.specs.Text.{Entry, SiteText, is_reply, is_site_from, comes_after, block_text, head_text, body_text, ended, site_limit}
use Rattle.site_core.specs.Serving as serving
use Rattle.site_core.specs.Serving.{IsServed, served, found, reply_text, answer_for, answer_to}
use Rattle.site_core.proofs.ServedLemmas.{served_once}
use Rattle.client_server.specs.Agreement.{IsAskable, request_head, reply_for}
use Rattle.client_server.proofs.Requests.{reads_request, host_is, link_is}

-- a reply that a site may hold, whose body isn't longer than so many bytes
pub record IsReplyWithin (most : ℕ) (reply : Reply) : Type 0 where
  pub valid : (is_reply reply ≡ true)
  pub short : length reply.body ≤ most

body_short : (e : Entry) → length e.1.body ≤ length (block_text e)
body_short e =
    let body = e.1.body in
    let size = ended (codes "body " ++ decimal (length body)) in
    let first = length-append (ended (codes "link " ++ e.0)) (head_text e.1 ++ body_text body) in
    let second = length-append (head_text e.1) (body_text body) in
    let third = length-append size (ended body) in
    let fourth = length-append body (10 ∷ []) in
    omega (arith, first, second, third, fourth)

-- what a site has for a link, or 404
abbrev reply_or : Option Reply → Reply
reply_or o = unwrap_or o (bare 404)

reply_within : (test : List ℕ → Bool) (before : Option (List ℕ)) (es : List Entry) → is_site_from before es ≡ true → IsReplyWithin (length (flat_map block_text es)) (reply_or (lookup test es))
reply_within test before [] site = record { valid = refl; short = omega arith }
reply_within test before (e ∷ es) site =
    let parts = and_parts (comes_after before e.0 && (is_site_link e.0 && is_reply e.1)) (is_site_from (Some e.0) es) site in
    let valid = (and_parts (is_site_link e.0) (is_reply e.1) (and_parts (comes_after before e.0) (is_site_link e.0 && is_reply e.1) parts.0).1).1 in
    let later = reply_within test (Some e.0) es parts.1 in
    let size = length-append (block_text e) (flat_map block_text es) in
    elim (test e.0) as (λ t. IsReplyWithin (length (flat_map block_text (e ∷ es))) (reply_or (cond t (Some e.1) (lookup test es)))) [
      | true ↦ record { valid = valid; short = omega (arith, body_short e, size) }
      | false ↦ record { valid = later.valid; short = omega (arith, later.short, size) }
    ]

pub site_reply : (site : List Entry) (text : List ℕ) (link : Link) → SiteText site text → IsReplyWithin site_limit (reply_for site link)
site_reply site text link is =
    let within = reply_within (bytes_eq link.text) None site is.site in
    let whole = length-append (flat_map block_text site) (ended (codes "end")) in
    let front = length-append (ended (codes "site 1")) (flat_map block_text site ++ ended (codes "end")) in
    record { valid = within.valid; short = omega (arith, within.short, whole, front, is.within, ap length is.text) }

sent : (o : Option Reply) → found o ≡ reply_text (reply_or o)
unfolding serving.reply_fields serving.line_of_field
sent None = sym (append-nil (serving.refusal 404))
sent (Some reply) = refl

answered : (site : List Entry) (link : Link) (via : Bool) → IsAskable link → served site (Some (request_head link via)) ≡ reply_text (reply_for site link)
answered site link via is =
    ap (answer_to site (codes "GET") (target_of link via)) (host_is link is)
    ∙ ap (answer_for site) (link_is link via is)
    ∙ sent (lookup (bytes_eq link.text) site)

-- what is served for the request for a link is its reply
pub served_reply : (site : List Entry) (link : Link) (via : Bool) (response : List ℕ) → IsAskable link → IsServed site (request_text link via) response → response ≡ reply_text (reply_for site link)
served_reply site link via response is serves =
    let head = request_head link via in
    let own : IsServed site (request_text link via) (served site (Some head)) = record { head = Some head; begins = ([], reads_request link via is, omega arith); text = refl } in
    served_once site (request_text link via) response (served site (Some head)) serves own ∙ answered site link via is
