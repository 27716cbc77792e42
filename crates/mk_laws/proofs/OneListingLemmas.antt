-- `enum` and `table` come to at most one effect.
--     one_enum, one_table_answer
use Rattle.std.proofs.Common.{◌≡◌, ℕ, ◌++◌, List, [], sym, ap, ◌∙◌, subst}
use Rattle.mk_model.specs.Queries.{QueryView}
use Rattle.mk_enum.specs.declared.listed.Structures.{Structures}
use Rattle.mk_enum.specs.Enumerations.{IsEnumeration}
use Rattle.mk_enum.proofs.ForCallers.{one_enumeration}
use Rattle.mk_outside.specs.declared.tables.QueryRow.{QueryRow}
use Rattle.mk_outside.specs.declared.tables.Tables.{Tables}
use Rattle.mk_rtable.specs.declared.rows.TableRow.{TableRow}
use Rattle.mk_rtable.specs.Table.{IsRGroupTable}
use Rattle.mk_rtable.specs.Text.{table_text}
use Rattle.mk_rtable.proofs.ForCallers.{one_table}
use Rattle.mk_kept.proofs.ForCallers.{HasQueryLaws, named_of}
use Rattle.mk_found.specs.Effects.{Answers, Effect}
use Rattle.mk_library.specs.Records.{IsMoleculeAt}
use Rattle.mk_effects.specs.Structures.{IsEnum, NoQueryEnumerated, WritesStructures, place_line}
use Rattle.mk_rtable.specs.Answer.{IsTableAnswer, NoQueryTabled, WritesRows}
use Rattle.mk_laws.proofs.OneSearchLemmas.{one_named}

pub one_enum : HasQueryLaws → (queries : List QueryRow) (name : List ℕ) (limit : ℕ) (from : List ℕ) (a b : Effect)
    → IsEnum queries name limit from a → IsEnum queries name limit from b → a ≡ b
one_enum laws queries name limit from a b (NoQueryEnumerated p e) (NoQueryEnumerated q f) = e ∙ sym f
one_enum laws queries name limit from a b (NoQueryEnumerated p e) (WritesStructures query named found is f) = let h = sym p ∙ named_of name queries query named in absurd cc
one_enum laws queries name limit from a b (WritesStructures query named found is e) (NoQueryEnumerated q f) = let h = sym q ∙ named_of name queries query named in absurd cc
one_enum laws queries name limit from a b (WritesStructures query named found is e) (WritesStructures other named' others its f) =
    let query_is : other ≡ query = one_named laws queries name other query named' named in
    let its' : IsEnumeration query from limit others = subst (λ (q : QueryView). IsEnumeration q from limit others) query_is its in
    let same : found ≡ others = one_enumeration query from limit found others is its' in
    e ∙ ap (λ (s : Structures). Answers [] (s.text ++ place_line s.ended s.place)) same ∙ sym f

pub one_table_answer : HasQueryLaws → (t : Tables) (name : List ℕ) (a b : Effect) → IsTableAnswer t name a → IsTableAnswer t name b → a ≡ b
one_table_answer laws t name a b (NoQueryTabled p e) (NoQueryTabled q f) = e ∙ sym f
one_table_answer laws t name a b (NoQueryTabled p e) (WritesRows query named rows is f) = let h = sym p ∙ named_of name t.queries query named in absurd cc
one_table_answer laws t name a b (WritesRows query named rows is e) (NoQueryTabled q f) = let h = sym q ∙ named_of name t.queries query named in absurd cc
one_table_answer laws t name a b (WritesRows query named rows is e) (WritesRows other named' others its f) =
    let query_is : other ≡ query = one_named laws t.queries name other query named' named in
    let its' : IsRGroupTable (IsMoleculeAt t.records) query others = subst (λ (q : QueryView). IsRGroupTable (IsMoleculeAt t.records) q others) query_is its in
    let rows_are : rows ≡ others = one_table (IsMoleculeAt t.records) query rows others is its' in
    e ∙ ap (λ (rs : List TableRow). Answers [] (table_text query rs)) rows_are ∙ ap (λ (q : QueryView). Answers [] (table_text q others)) (sym query_is) ∙ sym f
