-- The list of targets holds exactly the links that what was found leads to.
use Rattle.std.proofs.Common.{◌≡◌, refl, sym, subst, inl, inr}
use Rattle.rdf_terms.specs.Lists.{IsIn}
use Rattle.link_uri.specs.Links.{texts}
use Rattle.reach_criteria.proofs.Targets.{targets_exact}
use Rattle.reachability.specs.declared.outcome.Outcome.{Outcome}
use Rattle.reachability.specs.declared.outcome.Outcome.TheVariants.{Document, Moved, Refused}
use Rattle.reachability.specs.declared.record.Found.{Found}
use Rattle.reachability.specs.declared.record.Found.TheVariants.{Outcome as Told, Unreachable}
use Rattle.reachability.specs.Reach.{Text, Rule, LeadsTo}
use Rattle.traverse_core.specs.Run.{targets}

-- a target is a link that the outcome leads to
pub target_leads : (rule : Rule) (found : Found) (x : Text) → IsIn (texts (targets rule found)) x → (o : Outcome) × (found ≡ Told o) × LeadsTo rule o x
target_leads rule (Told (Document ts)) x h = (Document ts, refl, (targets_exact rule.criterion rule.patterns ts x).0 h)
target_leads rule (Told (Moved u)) x (inl e) = (Moved u, refl, e)
target_leads rule (Told (Moved u)) x (inr h) = absurd h
target_leads rule (Told (Refused why)) x h = absurd h
target_leads rule (Unreachable cause tries) x h = absurd h

leads_told : (rule : Rule) (o : Outcome) (x : Text) → LeadsTo rule o x → IsIn (texts (targets rule (Told o))) x
leads_told rule (Document ts) x l = (targets_exact rule.criterion rule.patterns ts x).1 l
leads_told rule (Moved u) x l = inl l
leads_told rule (Refused why) x l = absurd l

-- a link that the outcome leads to is a target
pub leads_target : (rule : Rule) (found : Found) (o : Outcome) (x : Text) → found ≡ Told o → LeadsTo rule o x → IsIn (texts (targets rule found)) x
leads_target rule found o x e l = subst (λ (f : Found). IsIn (texts (targets rule f)) x) (sym e) (leads_told rule o x l)
