-- Each token of a query has a text.
use Rattle.std.proofs.Common.{◌≡◌, ℕ, List, drop, slice_range, true, false, refl, sym, ap, subst}
use Rattle.std.specs.Str.{IsUtf8}
use Rattle.rdf_terms.specs.Lists.{IsIn}
use Rattle.terminals.specs.declared.class.Class.TheVariants as classes
use Rattle.terminals.specs.Groups.{is_label_first, is_name}
use Rattle.terminals.specs.Rules.{One, Then, Many}
use Rattle.terminals.specs.Terminals.{with_dots}
use Rattle.terminals.specs.Texts.{variable_text}
use Rattle.terminals.specs.Utf8.{symbols_of}
use Rattle.sparql_lexer.specs.declared.kind.QueryKind.{QueryKind}
use Rattle.sparql_lexer.specs.declared.kind.QueryKind.TheVariants as kinds
use Rattle.sparql_lexer.specs.declared.token.QueryToken.{QueryToken}
use Rattle.sparql_lexer.specs.Rules.{rule_of, variable, is_var, is_var_mark}
use Rattle.sparql_lexer.specs.Tokens.{QueryTokens, skipped, token_of}
use Rattle.definition_laws.specs.TokenTexts.{HasQueryText}
use Rattle.definition_laws.proofs.Matching.{Matches, lacks}
use Rattle.definition_laws.proofs.Letters.{Letter, bytes_of, class_of, each_token}
use Rattle.definition_laws.proofs.Characters.{are_utf8, is_small}
use Rattle.definition_laws.proofs.Texts.{has_text, begins, iri_utf8, prefix_utf8, local_utf8, label_utf8}
use Rattle.definition_laws.proofs.Strings.{string_utf8}
use Rattle.definition_laws.proofs.Tags.{tag_utf8}

-- ---- variables

variable_utf8 : (ls : List Letter) → Matches class_of variable ls → IsUtf8 (variable_text (bytes_of ls))
variable_utf8 ls m =
    let b = begins is_var_mark (Then (One is_label_first) (Many (One is_var))) ls (is_small is_var_mark refl refl refl) m in
    subst IsUtf8 (sym (ap (drop 1) b.2)) (are_utf8 b.1)

-- ---- each kind

no_ill : (k : QueryKind) → lacks classes.Ill (rule_of k) ≡ true
no_ill kinds.IriRef = refl
no_ill kinds.Name = refl
no_ill kinds.BlankLabel = refl
no_ill kinds.Var = refl
no_ill kinds.Tag = refl
no_ill kinds.Quoted = refl
no_ill kinds.Integer = refl
no_ill kinds.Decimal = refl
no_ill kinds.Double = refl
no_ill kinds.Word = refl
no_ill kinds.Mark = refl
no_ill kinds.Bad = refl
no_ill kinds.End = refl

by_kind : (k : QueryKind) (ls : List Letter) → Matches class_of (rule_of k) ls → HasQueryText k (bytes_of ls)
by_kind kinds.Var ls m = has_text _ (variable_utf8 ls m)
by_kind kinds.IriRef ls m = has_text _ (iri_utf8 ls m)
by_kind kinds.Name ls m = (has_text _ (prefix_utf8 ls m), has_text _ (local_utf8 ls m))
by_kind kinds.BlankLabel ls m = has_text _ (label_utf8 (Then (One is_label_first) (with_dots is_name)) ls m)
by_kind kinds.Tag ls m = has_text _ (tag_utf8 ls m)
by_kind kinds.Quoted ls m = has_text _ (string_utf8 ls m)
by_kind kinds.Integer ls m = has_text _ (are_utf8 ls)
by_kind kinds.Decimal ls m = has_text _ (are_utf8 ls)
by_kind kinds.Double ls m = has_text _ (are_utf8 ls)
by_kind _ ls m = tt

pub query_texts : (bytes : List ℕ) (ts : List QueryToken) → QueryTokens bytes ts → (t : QueryToken) → IsIn ts t → HasQueryText t.kind (slice_range bytes t.from t.to)
query_texts bytes ts are t h =
    each_token rule_of token_of kinds.Bad kinds.End bytes (λ (t : QueryToken). HasQueryText t.kind (slice_range bytes t.from t.to)) no_ill
    (λ k from to ls e m. subst (λ (l : List ℕ). HasQueryText k l) (sym e) (by_kind k ls m)) (λ at. tt) (λ at. tt)
    false (skipped bytes) (symbols_of (drop (skipped bytes) bytes)) ts refl are t h
