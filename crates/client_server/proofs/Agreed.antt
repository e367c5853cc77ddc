-- What is read of a response is the reply that it sends.
use Rattle.std.proofs.Common.{◌≡◌, ℕ, ◌≤◌, Bool, true, false, cond, List, [], ◌++◌, length, refl, sym, ap, ◌∙◌, subst, arith, append_assoc, length-append}
use Rattle.std.specs.Prelude.{nat_lt, nat_le}
use Rattle.std.proofs.Math.Seq.{take-append_seam}
use Rattle.std.proofs.lemmas.Bool.Decides.{nat_tests}
use Rattle.httparse.specs.Grammar.{ResponseHead, print_response}
use Rattle.link_uri.specs.declared.link.Link.{Link}
use Rattle.link_uri.specs.declared.heard.Reply.{Reply}
use Rattle.link_uri.specs.declared.heard.Heard.TheVariants as heard
use Rattle.link_uri.specs.Wanted.{is_wanted}
use Rattle.http_message.specs.declared.facts.Facts.{Facts}
use Rattle.http_message.specs.declared.framing.Framing.TheVariants.{Sized}
use Rattle.http_message.specs.Heads.{IsHead}
use Rattle.http_message.specs.Facts.{facts_of, is_interim}
use Rattle.http_message.specs.Chunks.{whole_body, long_body}
use Rattle.http_message.specs.Body.{decided, with_body, body_from, message_from, sized}
use Rattle.http_message.specs.Reading.{Reads, head_limit}
use Rattle.http_message.specs.Request.{request_text}
use Rattle.site_core.specs.Text.{Entry, SiteText}
use Rattle.site_core.specs.Serving.{IsServed, reply_head, reply_text}
use Rattle.client_server.specs.Agreement.{IsAskable, reply_for, heard_of}
use Rattle.client_server.proofs.Sites.{site_reply, served_reply}
use Rattle.client_server.proofs.Responses.{IsSent, response_head, head_text_is, is_head, is_final, facts_are}

-- the law of printed heads
abbrev pub HeadsAreRead : Type 0
HeadsAreRead = (limit : ℕ) (h : ResponseHead) (body : List ℕ) → IsHead (print_response h) h → h.blank ≡ [] → is_interim h ≡ false
    → length (print_response h) ≤ head_limit → Reads limit (print_response h ++ body) (message_from (facts_of h) limit body)

abbrev emptied : Reply → Reply
emptied reply = record reply { body = [] }

all_there : (body more : List ℕ) → sized (length body) [] (body ++ more) ≡ whole_body body
all_there body more =
    let enough : nat_le (length body) (length (body ++ more)) ≡ true = let size = length-append body more in let least : length body ≤ length (body ++ more) = omega (arith, size) in grind (arith, nat_tests) in
    rw (enough, take-append_seam) refl

wanted_body : (reply : Reply) (limit : ℕ) (more : List ℕ) → with_body (emptied reply) (body_from (Sized (length reply.body)) limit (reply.body ++ more))
    ≡ decided (cond (nat_lt limit (length reply.body)) heard.TooLong (heard.Reply reply))
wanted_body reply limit more =
    elim (nat_lt limit (length reply.body)) as (λ t. with_body (emptied reply) (cond t long_body (sized (length reply.body) [] (reply.body ++ more))) ≡ decided (cond t heard.TooLong (heard.Reply reply))) [
      | true ↦ refl
      | false ↦ rw (all_there reply.body more) refl
    ]

said : (reply : Reply) (limit : ℕ) (more : List ℕ) → message_from (record { reply = emptied reply; framing = Sized (length reply.body) }) limit (reply.body ++ more) ≡ decided (heard_of limit reply)
said reply limit more =
    let body = body_from (Sized (length reply.body)) limit (reply.body ++ more) in
    elim (is_wanted reply) as (λ t. with_body (emptied reply) (cond t body (whole_body [])) ≡ decided (cond t (cond (nat_lt limit (length reply.body)) heard.TooLong (heard.Reply reply)) (heard.Reply (emptied reply)))) [
      | true ↦ wanted_body reply limit more
      | false ↦ refl
    ]

reads_reply : (law : HeadsAreRead) (reply : Reply) (limit : ℕ) (more : List ℕ) → IsSent reply → length (reply_head reply) ≤ head_limit → Reads limit (reply_text reply ++ more) (decided (heard_of limit reply))
reads_reply law reply limit more is fits =
    let h = response_head reply in
    let text = head_text_is reply in
    let short : length (print_response h) ≤ head_limit = omega (arith, fits, ap length text) in
    let read = law limit h (reply.body ++ more) (is_head reply is) refl (is_final reply is) short in
    let bytes : print_response h ++ (reply.body ++ more) ≡ reply_text reply ++ more = ap (λ front. front ++ (reply.body ++ more)) text ∙ sym (append_assoc (reply_head reply) reply.body more) in
    let progress : message_from (facts_of h) limit (reply.body ++ more) ≡ decided (heard_of limit reply) = ap (λ (f : Facts). message_from f limit (reply.body ++ more)) (facts_are reply is) ∙ said reply limit more in
    subst (λ bs. Reads limit bs (decided (heard_of limit reply))) bytes (subst (Reads limit (print_response h ++ (reply.body ++ more))) progress read)

pub agree : (law : HeadsAreRead) (site : List Entry) (text : List ℕ) (link : Link) (via : Bool) (response more : List ℕ) (limit : ℕ)
    → SiteText site text → IsAskable link → IsServed site (request_text link via) response → length (reply_head (reply_for site link)) ≤ head_limit
    → Reads limit (response ++ more) (decided (heard_of limit (reply_for site link)))
agree law site text link via response more limit is askable serves fits =
    let reply = reply_for site link in
    let within = site_reply site text link is in
    let sent : IsSent reply = record { valid = within.valid; small = omega (arith, within.short) } in
    subst (λ bs. Reads limit (bs ++ more) (decided (heard_of limit reply))) (sym (served_reply site link via response askable serves)) (reads_reply law reply limit more sent fits)
