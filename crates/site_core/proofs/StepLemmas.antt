-- The steps as the code takes them, with numbers of at most 64 bits.
use Rattle.std.proofs.Common.{◌≡◌, ℕ, ◌-◌, suc, List, [], ◌∷◌, length, Bool, true, false, ◌&&◌, cond, Option, Some, None, refl, sym, ap, subst, arith}
use Rattle.std.specs.Prelude.{option_map, slice_get}
use Rattle.std.specs.Option.{is_none}
use Rattle.std.specs.Str.{IsUtf8}
use Rattle.std.proofs.lemmas.Bool.{and_parts}
use Rattle.std.proofs.lemmas.Option.{same_Some}
use Rattle.link_uri.specs.declared.heard.Reply.{Reply}
use Rattle.site_core.specs.declared.expected.Field.{Field}
use Rattle.site_core.specs.declared.expected.Field.TheVariants.{Media, Coding, Location, Size}
use Rattle.site_core.specs.declared.expected.Expected.TheVariants.{Headed}
use Rattle.site_core.specs.declared.expected.Step.{Step}
use Rattle.site_core.specs.declared.expected.Step.TheVariants.{Misfit, Next}
use Rattle.site_core.specs.Capped.{capped, capped_field}
use Rattle.site_core.specs.Fields.{is_site_link}
use Rattle.site_core.specs.Lines.{last_link, with_field}
use Rattle.site_core.specs.Text.{Entry}
use Rattle.site_core.proofs.Ends.{visible_text}

pub site_link_text : (text : List ℕ) → is_site_link text ≡ true → IsUtf8 text
unfolding is_site_link
site_link_text text valid = visible_text text (and_parts _ _ valid).0

-- the link of the last entry
pub last_link-last : (before : Option (List ℕ)) (es : List Entry) (e : Entry) → slice_get es (length es - 1) ≡ Some e → last_link before es ≡ Some e.0
last_link-last before [] e found = absurd cc
last_link-last before (x ∷ []) e found = ap (λ (y : Entry). Some y.0) (same_Some x e found)
last_link-last before (x ∷ y ∷ es) e found =
    let P : ℕ → Type 0 = λ n. slice_get (x ∷ y ∷ es) n ≡ Some e in
    let Q : ℕ → Type 0 = λ n. slice_get (y ∷ es) n ≡ Some e in
    let one_less : length (x ∷ y ∷ es) - 1 ≡ suc (length es) = omega arith in
    let two_less : length es ≡ length (y ∷ es) - 1 = omega arith in
    last_link-last (Some x.0) (y ∷ es) e (subst Q two_less (subst P one_less found))

capped_cond : (b : Bool) (s : Step) → capped s ≡ s → cond b s Misfit ≡ capped (cond b s Misfit)
capped_cond true s same = sym same
capped_cond false s same = refl

pub with_field-capped : (link : List ℕ) (reply : Reply) (f : Option Field) → with_field link reply (option_map capped_field f) ≡ capped (with_field link reply f)
with_field-capped link reply None = refl
with_field-capped link reply (Some (Media value)) = capped_cond (is_none reply.media && (is_none reply.coding && is_none reply.location)) (Next (Headed link (record reply { media = Some value }))) refl
with_field-capped link reply (Some (Coding value)) = capped_cond (is_none reply.coding && is_none reply.location) (Next (Headed link (record reply { coding = Some value }))) refl
with_field-capped link reply (Some (Location value)) = capped_cond (is_none reply.location) (Next (Headed link (record reply { location = Some value }))) refl
with_field-capped link reply (Some (Size n)) = refl
