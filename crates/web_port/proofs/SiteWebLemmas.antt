-- What a site answers as a web, and that a poll of a site's fetcher is a fetcher's poll.
use Rattle.std.proofs.Common.{ℕ, ◌≡◌, ◌≢◌, ◌<◌, List, [], ◌∷◌, Option, Some, None, Bool, true, false, refl, sym, ◌∙◌, ap, subst, arith, length, get_or}
use Rattle.std.specs.Prelude.{if◌then◌else◌, cond, bytes_eq, Result, Ok, Err, IfOk, OnOk, OnErr}
use Rattle.std.specs.Map.{lookup}
use Rattle.std.proofs.lemmas.Slice.Eq.{bytes_eq-Decides}
use Rattle.rdf_terms.specs.declared.memory.Memory.{Memory}
use Rattle.link_uri.specs.declared.heard.Heard.{Heard}
use Rattle.link_uri.specs.declared.heard.Heard.TheVariants.{Reply, Never}
use Rattle.link_uri.specs.declared.heard.Reply.{Reply as AReply}
use Rattle.reachability.specs.Web.{heard_at}
use Rattle.site_core.specs.Text.{Entry}
use Rattle.web_port.specs.declared.flight.Flight.{Flight}
use Rattle.web_port.specs.declared.fetcher.Got.TheVariants.{Heard as Told}
use Rattle.web_port.specs.declared.fetcher.Polled.{Polled}
use Rattle.web_port.specs.declared.fetcher.Polled.TheVariants.{Settled}
use Rattle.web_port.specs.Flights.{fresh}
use Rattle.web_port.specs.Lanes.{Flying, FlightsKept, answered, port_of}
use Rattle.web_port.specs.Port.{Polls, Waits}
use Rattle.web_port.specs.SiteWeb.{not_found, web_of_site, SiteFetching, site_fetch, site_polled, after_site_poll}
use Rattle.web_port.proofs.MemoryWebLemmas.{polls_answered, waits_same}

same_bool : (a b : Bool) → (a ≡ true → b ≡ true) → (b ≡ true → a ≡ true) → a ≡ b
same_bool true true f g = refl
same_bool true false f g = sym (f refl)
same_bool false true f g = g refl
same_bool false false f g = refl

bytes_eq-flip : (xs ys : List ℕ) → bytes_eq xs ys ≡ bytes_eq ys xs
bytes_eq-flip xs ys =
    same_bool (bytes_eq xs ys) (bytes_eq ys xs)
    (λ h. (bytes_eq-Decides ys xs).1 (sym ((bytes_eq-Decides xs ys).0 h)))
    (λ h. (bytes_eq-Decides xs ys).1 (sym ((bytes_eq-Decides ys xs).0 h)))

-- the reply that was found, or the 404
abbrev pub found_or_not : Option AReply → Heard
found_or_not None = Reply not_found
found_or_not (Some reply) = Reply reply

found_choice : (b : Bool) (reply : AReply) (heard : Heard) (found : Option AReply) → heard ≡ found_or_not found → (if b then Reply reply else heard) ≡ found_or_not (cond b (Some reply) found)
found_choice true reply heard found e = refl
found_choice false reply heard found e = e

heard_found : (site : List Entry) (text : List ℕ) → heard_at (web_of_site site) text ≡ found_or_not (lookup (bytes_eq text) site)
heard_found [] text = refl
heard_found (e ∷ es) text =
    ap (λ (b : Bool). if b then Reply e.1 else heard_at (web_of_site es) text) (bytes_eq-flip e.0 text)
    ∙ found_choice (bytes_eq text e.0) e.1 (heard_at (web_of_site es) text) (lookup (bytes_eq text) es) (heard_found es text)

pub heard_some : (site : List Entry) (text : List ℕ) (reply : AReply) → Some reply ≡ lookup (bytes_eq text) site → Reply reply ≡ heard_at (web_of_site site) text
heard_some site text reply e = sym (heard_found site text ∙ ap found_or_not (sym e))

pub heard_none : (site : List Entry) (text : List ℕ) → None ≡ lookup (bytes_eq text) site → Reply not_found ≡ heard_at (web_of_site site) text
heard_none site text e = sym (heard_found site text ∙ ap found_or_not (sym e))

-- a site answers each link
reply_found : (found : Option AReply) → found_or_not found ≢ Never
reply_found None e = absurd (cc)
reply_found (Some reply) e = absurd (cc)

site_answers : (site : List Entry) (text : List ℕ) → heard_at (web_of_site site) text ≢ Never
site_answers site text e = reply_found (lookup (bytes_eq text) site) (sym (heard_found site text) ∙ e)

polls_site : (site : List Entry) (tries : ℕ) (o : Flying) (xs : List Flight) → o.flights ≡ xs → FlightsKept tries o.flights → Polls (site_fetch site tries) (port_of 0 o) (site_polled (web_of_site site) xs) (port_of 0 (after_site_poll o xs))
polls_site site tries o [] e k = (waits_same (site_fetch site tries) 0 0 o, e)
polls_site site tries o (x ∷ xs) e k =
    let first : get_or o.flights 0 (fresh 0 []) ≡ x = ap (λ (ys : List Flight). get_or ys 0 (fresh 0 [])) e in
    let there : 0 < length o.flights = let l = ap length e in omega arith in
    subst (λ (y : Flight). Polls (site_fetch site tries) (port_of 0 o) (Settled y.number (Told (heard_at (web_of_site site) y.link))) (port_of 0 (answered o 0))) first
    (polls_answered (web_of_site site) tries 0 0 [] o 0 (fresh 0 []) (heard_at (web_of_site site) (get_or o.flights 0 (fresh 0 [])).link) there (site_answers site _) refl k.once)

pub ok_polls_site : (r : Result Polled Memory) (f new : SiteFetching) → FlightsKept f.tries f.flying.flights → IfOk r (λ polled. polled ≡ site_polled (web_of_site f.site) f.flying.flights) → OnOk r (new ≡ record f { flying = after_site_poll f.flying f.flying.flights })
    → IfOk r (λ polled. Polls (site_fetch f.site f.tries) (port_of 0 f.flying) polled (port_of 0 new.flying))
ok_polls_site (Ok polled) f new k p s = rw (p, s) (polls_site f.site f.tries f.flying f.flying.flights refl k)
ok_polls_site (Err e) f new k p s = tt

pub err_waits_site : (r : Result Polled Memory) (f new : SiteFetching) → OnErr r (new ≡ f) → OnErr r (Waits (site_fetch f.site f.tries) (port_of 0 f.flying) (port_of 0 new.flying))
err_waits_site (Ok polled) f new s = tt
err_waits_site (Err e) f new s = rw s (waits_same (site_fetch f.site f.tries) 0 0 f.flying)
