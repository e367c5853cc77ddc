-- Lists of commands, and what a link may be found with.
use Rattle.std.proofs.Common.{ℕ, ◌≡◌, List, [], ◌∷◌, ◌++◌, Option, Some, None, true, false, ap, sym, subst, inl, inr}
use Rattle.std.specs.Prelude.{IfSome, IsSome}
use Rattle.rdf_terms.specs.Lists.{IsIn}
use Rattle.rdf_terms.proofs.Members.{in_either}
use Rattle.link_uri.specs.declared.link.Link.{Link}
use Rattle.link_uri.specs.declared.link.Scheme.TheVariants.{Https}
use Rattle.reachability.specs.declared.outcome.Outcome.{Outcome}
use Rattle.reachability.specs.declared.outcome.Outcome.TheVariants.{Refused}
use Rattle.reachability.specs.declared.outcome.Why.TheVariants as why
use Rattle.reachability.specs.declared.record.Found.TheVariants.{Outcome as Told}
use Rattle.traverse_core.specs.declared.steps.Command.{Command}
use Rattle.reachability.specs.declared.record.Found.{Found}
use Rattle.reachability.specs.Web.{ToldWeb, Fetch}
use Rattle.traverse_core.specs.Run.{Run, TellsIfSure, AgreesAt, MayFind}
use Rattle.traverse_core.specs.Steps.{MayBe, AllMayBe}

untold : (web : Option ToldWeb) (body : ℕ) (u : Link) (f : Found) → web ≡ None → IfSome web (λ w. AgreesAt w body u f)
untold None body u f e = tt
untold (Some w) body u f e = absurd (cc)

-- without a told web only the scheme decides
pub told_fits : (run : Run) (link : Link) (o : Outcome) → run.fetch.web ≡ None
    → (link.scheme ≡ Https → o ≡ Refused why.Scheme) → MayFind run link (Told o)
told_fits run link o none https = record {
  agrees = untold run.fetch.web run.body link (Told o) none;
  https = λ e. ap Told (https e);
  tried = λ cause tries e. absurd (cc);
  sure = λ cause tries s e. absurd (cc);
}

-- a run that isn't sure need not tell a web
pub tells_unsure : (run : Run) → run.fetch.sure ≡ false → TellsIfSure run.fetch
tells_unsure run e = λ sure. absurd (cc)

-- a run tells as its fetcher does
pub tells_same : (run : Run) (fetch : Fetch) → run.fetch ≡ fetch → (fetch.sure ≡ true → IsSome fetch.web) → TellsIfSure run.fetch
tells_same run fetch e told = subst TellsIfSure (sym e) told

-- no command
pub all_none : (run : Run) (cs : List Command) → cs ≡ [] → AllMayBe run cs
all_none run cs e = λ c h. absurd (subst (λ (l : List Command). IsIn l c) e h)

-- one more
pub all_push : (run : Run) (cs ds : List Command) (c : Command) → ds ≡ cs ++ c ∷ [] → AllMayBe run cs → MayBe run c → AllMayBe run ds
all_push run cs ds c e all one = λ d h.
    elim (in_either cs (c ∷ []) d (subst (λ (l : List Command). IsIn l d) e h)) [
      | inl a ↦ all d a
      | inr b ↦ elim b [ inl f ↦ subst (MayBe run) f one | inr z ↦ absurd z ]
    ]
