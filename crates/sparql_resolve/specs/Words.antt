-- Keywords (SPARQL 1.1, section 19.8), which are read in any case, but for `a`.
use Rattle.std.specs.Prelude.{ℕ, ◌==◌, ◌||◌, Bool, true, false, List, [], ◌∷◌, Option, Some, None, codes, if◌then◌else◌}
use Rattle.std.specs.Option.{option_or}
use Rattle.expr_eval.specs.declared.expr.Function.TheVariants as functions
use Rattle.terminals.specs.Words.{is_word}
use Rattle.sparql_resolve.specs.declared.kind.Kind.{Kind}
use Rattle.sparql_resolve.specs.declared.kind.Kind.TheVariants as kinds

abbrev pub head_word : List ℕ → Option Kind
head_word w =
    if is_word w (codes "base") then Some kinds.Base
    else (if is_word w (codes "prefix") then Some kinds.Prefix
    else (if is_word w (codes "select") then Some kinds.Select
    else (if is_word w (codes "distinct") then Some kinds.Distinct
    else (if is_word w (codes "where") then Some kinds.Where
    else None))))

abbrev pub group_word : List ℕ → Option Kind
group_word w =
    if is_word w (codes "union") then Some kinds.Union
    else (if is_word w (codes "optional") then Some kinds.Optional
    else (if is_word w (codes "filter") then Some kinds.Filter
    else (if is_word w (codes "true") then Some (kinds.Boolean true)
    else (if is_word w (codes "false") then Some (kinds.Boolean false)
    else None))))

abbrev pub order_word : List ℕ → Option Kind
order_word w =
    if is_word w (codes "order") then Some kinds.Order
    else (if is_word w (codes "by") then Some kinds.By
    else (if is_word w (codes "asc") then Some kinds.Asc
    else (if is_word w (codes "desc") then Some kinds.Desc
    else None)))

abbrev pub call_word : List ℕ → Option Kind
call_word w =
    if is_word w (codes "bound") then Some kinds.Bound
    else (if is_word w (codes "sameterm") then Some kinds.SameTerm
    else (if is_word w (codes "str") then Some (kinds.Function functions.Str)
    else (if is_word w (codes "lang") then Some (kinds.Function functions.Lang)
    else (if is_word w (codes "datatype") then Some (kinds.Function functions.Datatype)
    else None))))

abbrev pub test_word : List ℕ → Option Kind
test_word w =
    if is_word w (codes "isiri") || is_word w (codes "isuri") then Some (kinds.Function functions.IsIri)
    else (if is_word w (codes "isblank") then Some (kinds.Function functions.IsBlank)
    else (if is_word w (codes "isliteral") then Some (kinds.Function functions.IsLiteral)
    else None))

-- keywords that the profile never takes: of other forms of query,
abbrev pub is_unsupported_form : List ℕ → Bool
is_unsupported_form w =
    is_word w (codes "ask") || (is_word w (codes "construct") || (is_word w (codes "describe") || (is_word w (codes "reduced")
    || (is_word w (codes "from") || (is_word w (codes "named") || (is_word w (codes "insert") || is_word w (codes "delete")))))))

-- of other parts of a group,
abbrev pub is_unsupported_part : List ℕ → Bool
is_unsupported_part w =
    is_word w (codes "graph") || (is_word w (codes "service") || (is_word w (codes "minus") || (is_word w (codes "bind")
    || (is_word w (codes "values") || (is_word w (codes "exists") || (is_word w (codes "not") || (is_word w (codes "in") || is_word w (codes "as"))))))))

-- behind the pattern, and of aggregates,
abbrev pub is_unsupported_ending : List ℕ → Bool
is_unsupported_ending w =
    is_word w (codes "group") || (is_word w (codes "having") || (is_word w (codes "limit") || (is_word w (codes "offset") || (is_word w (codes "count")
    || (is_word w (codes "sum") || (is_word w (codes "min") || (is_word w (codes "max") || (is_word w (codes "avg")
    || (is_word w (codes "sample") || is_word w (codes "group_concat"))))))))))

-- of functions of texts,
abbrev pub is_unsupported_text_call : List ℕ → Bool
is_unsupported_text_call w =
    is_word w (codes "regex") || (is_word w (codes "concat") || (is_word w (codes "strlen") || (is_word w (codes "substr") || (is_word w (codes "ucase")
    || (is_word w (codes "lcase") || (is_word w (codes "contains") || (is_word w (codes "strstarts") || (is_word w (codes "strends") || is_word w (codes "langmatches")))))))))

-- of functions of terms,
abbrev pub is_unsupported_term_call : List ℕ → Bool
is_unsupported_term_call w =
    is_word w (codes "if") || (is_word w (codes "coalesce") || (is_word w (codes "iri") || (is_word w (codes "uri") || (is_word w (codes "bnode")
    || (is_word w (codes "rand") || (is_word w (codes "now") || is_word w (codes "isnumeric")))))))

-- and of functions of numbers and times
abbrev pub is_unsupported_number_call : List ℕ → Bool
is_unsupported_number_call w =
    is_word w (codes "abs") || (is_word w (codes "ceil") || (is_word w (codes "floor") || (is_word w (codes "round")
    || (is_word w (codes "year") || (is_word w (codes "month") || is_word w (codes "day"))))))

abbrev pub is_unsupported : List ℕ → Bool
is_unsupported w =
    is_unsupported_form w || (is_unsupported_part w || (is_unsupported_ending w || (is_unsupported_text_call w || (is_unsupported_term_call w || is_unsupported_number_call w))))

-- the verb alone is read only as written
abbrev pub verb_or_unknown : List ℕ → Kind
verb_or_unknown (b ∷ []) = if b == 97 then kinds.A else kinds.Unknown
verb_or_unknown _ = kinds.Unknown

abbrev pub other_word : List ℕ → Kind
other_word w = if is_unsupported w then kinds.Unsupported else verb_or_unknown w

abbrev pub kind_or : Option Kind → Kind → Kind
kind_or (Some k) other = k
kind_or None other = other

abbrev pub clause_word : List ℕ → Option Kind
clause_word w = option_or (head_word w) (option_or (group_word w) (order_word w))

abbrev pub expression_word : List ℕ → Option Kind
expression_word w = option_or (call_word w) (test_word w)

-- what the bytes of a Word are
abbrev pub word_kind : List ℕ → Kind
word_kind w = kind_or (clause_word w) (kind_or (expression_word w) (other_word w))
