-- From a place on there is one enumeration of so many structures.
--     one_enumeration      there is at most one
--     some_enumeration     and there is one
use Rattle.std.proofs.Common.{◌≡◌, ◌≤◌, ◌⊎◌, ◌+◌, ℕ, zero, suc, Bool, List, [], ◌∷◌, ◌++◌, length, take, drop, refl, sym, ap, ◌∙◌, subst, arith, inl, inr}
use Rattle.std.specs.Prelude.{nat_lt}
use Rattle.mk_text.specs.Rising.{AreFirst, Holds, IsBelow, IsFrom, IsRisingListOfAll, Rises, place_behind}
use Rattle.mk_text.proofs.ForCallers.{below_or_not, each_holds, holds_each, one_list_is_first}
use Rattle.mk_text.proofs.RisingLemmas.{take_below_drop, take_holds, take_rises}
use Rattle.mk_model.specs.declared.graph.GraphAtom.{GraphAtom}
use Rattle.mk_model.specs.Edges.{degree}
use Rattle.mk_model.specs.Graphs.{GraphView, graph_edges}
use Rattle.mk_model.specs.Logic.{IsValid}
use Rattle.mk_model.specs.PlainCodes.{valid_codes}
use Rattle.mk_model.specs.Queries.{QueryView}
use Rattle.mk_model.specs.QueryFits.{QueryFits}
use Rattle.mk_model.proofs.ForCallers.{code_of_valid, valid_codes_listed}
use Rattle.mk_query.proofs.KnownLemmas.{Known, known_all, known_as, known_below, known_both, known_equal, known_if, known_most, known_not}
use Rattle.mk_expand.proofs.ForCallers.{one_graph, some_graph}
use Rattle.mk_enum.specs.declared.listed.Structures.{Structures}
use Rattle.mk_enum.specs.Enumerations.{AreTextsOf, IsEnumeration, IsStructure, IsTextOf}
use Rattle.mk_enum.specs.Texts.{structure_text}
use Rattle.mk_enum.specs.Writable.{IsWritable}
use Rattle.mk_enum.proofs.SpeltLemmas.{table_drawn, table_is}

-- ---- at most one

-- a structure has one text
one_text : (query : QueryView) (code text other : List ℕ) → IsTextOf query code text → IsTextOf query code other → text ≡ other
one_text query code text other is its =
    let graph : is.structure.graph ≡ its.structure.graph = one_graph query code is.structure.graph its.structure.graph is.structure.expanded its.structure.expanded in
    let table : is.table ≡ its.table = table_is is.structure.graph is.table is.drawn ∙ ap table_drawn graph ∙ sym (table_is its.structure.graph its.table its.drawn) in
    is.is ∙ ap (structure_text code) table ∙ sym its.is

one_joined : (query : QueryView) (list : List (List ℕ)) (text other : List ℕ) → AreTextsOf query list text → AreTextsOf query list other → text ≡ other
one_joined query [] text other none its = none ∙ sym its
one_joined query (code ∷ list) text other (front, back, whole, of, others) (front', back', whole', of', others') =
    whole ∙ ap (λ (t : List ℕ). t ++ back) (one_text query code front front' of of') ∙ ap (λ (t : List ℕ). front' ++ t) (one_joined query list back back' others others') ∙ sym whole'

-- the enumeration of a query from a place on
pub one_enumeration : (query : QueryView) (place : List ℕ) (limit : ℕ) (found other : Structures) → IsEnumeration query place limit found → IsEnumeration query place limit other → found ≡ other
one_enumeration query place limit found other is its =
    let list : found.codes ≡ other.codes = one_list_is_first limit (IsFrom (IsStructure query) place) found.codes other.codes is.first its.first in
    let text : found.text ≡ other.text = one_joined query other.codes found.text other.text (subst (λ (l : List (List ℕ)). AreTextsOf query l found.text) list is.texts) its.texts in
    let behind : found.place ≡ other.place = is.behind ∙ ap (place_behind place) list ∙ sym its.behind in
    let ended : found.ended ≡ other.ended = is.ended ∙ ap (λ (l : List (List ℕ)). nat_lt (length l) limit) list ∙ sym its.ended in
    ap (λ (l : List (List ℕ)). record { codes = l; text = found.text; place = found.place; ended = found.ended }) list
    ∙ ap (λ (t : List ℕ). record { codes = other.codes; text = t; place = found.place; ended = found.ended }) text
    ∙ ap (λ (p : List ℕ). record { codes = other.codes; text = other.text; place = p; ended = found.ended }) behind
    ∙ ap (λ (b : Bool). record { codes = other.codes; text = other.text; place = other.place; ended = b }) ended

-- ---- what is known

known_few : (n : ℕ) (graph : GraphView) → Known ((x : ℕ) → 1 ≤ x → x ≤ n → degree (graph_edges graph.bonds) x ≤ 20)
known_few n graph =
    known_as (known_below (λ x. 1 ≤ x → x ≤ n → degree (graph_edges graph.bonds) x ≤ 20)
    (λ x. known_if (known_most 1 x) (known_if (known_most x n) (known_most (degree (graph_edges graph.bonds) x) 20))) (n + 1))
    (λ below x least most. below x (omega (arith, most)) least most) (λ all x below. all x)

known_writable : (graph : GraphView) → Known (IsWritable graph)
known_writable graph =
    known_as (known_both (known_all (λ (atom : GraphAtom). atom.free ≡ 0) (λ atom. known_equal atom.free 0) graph.atoms)
    (known_both (known_most (length graph.bonds) 999) (known_few (length graph.atoms) graph)))
    (λ all. record { closed = all.0; few_bonds = all.1.0; few_each = all.1.1 }) (λ is. (is.closed, (is.few_bonds, is.few_each)))

-- whether a valid code has a structure
known_structure : (query : QueryView) (code : List ℕ) → QueryFits query → IsValid query code → Known (IsStructure query code)
known_structure query code fits valid =
    let expanded = some_graph query code fits (code_of_valid query code valid) in
    known_as (known_writable expanded.0) (λ writable. record { graph = expanded.0; valid = valid; expanded = expanded.1; writable = writable })
    (λ is. subst IsWritable (one_graph query code is.graph expanded.0 is.expanded expanded.1) is.writable)

-- ---- all structures from a place on

-- those of some lists that have P
pub record IsPicked (P : List ℕ → Type 0) (lists : List (List ℕ)) : Type 0 where
  pub picked : List (List ℕ)
  pub rises : Rises picked
  pub each : (xs : List ℕ) → Holds picked xs → Holds lists xs × P xs
  pub all : (xs : List ℕ) → Holds lists xs → P xs → Holds picked xs

pick : (P : List ℕ → Type 0) (lists : List (List ℕ)) → Rises lists → ((xs : List ℕ) → Holds lists xs → Known (P xs)) → IsPicked P lists
pick P [] rises known = record { picked = []; rises = tt; each = λ xs held. absurd held; all = λ xs held is. absurd held }
pick P (xs ∷ lists) rises known = by (known xs (inl refl)) (pick P lists rises.1 (λ ys held. known ys (inr held)))
  where
    by : Known (P xs) → IsPicked P lists → IsPicked P (xs ∷ lists)
    by (inl has) rest = record {
      picked = xs ∷ rest.picked;
      rises = (holds_each (λ ys. IsBelow xs ys) rest.picked (λ ys held. each_holds (λ zs. IsBelow xs zs) lists ys rises.0 (rest.each ys held).0), rest.rises);
      each = λ ys held. elim held [
        | inl same ↦ (inl same, subst P same has)
        | inr later ↦ (inr (rest.each ys later).0, (rest.each ys later).1)
      ];
      all = λ ys held is. elim held [ inl same ↦ inl same | inr later ↦ inr (rest.all ys later is) ];
    }
    by (inr lacks) rest = record {
      picked = rest.picked;
      rises = rest.rises;
      each = λ ys held. (inr (rest.each ys held).0, (rest.each ys held).1);
      all = λ ys held is. elim held [ inl same ↦ absurd (lacks (subst P (sym same) is)) | inr later ↦ rest.all ys later is ];
    }

all_from : (query : QueryView) (place : List ℕ) → QueryFits query → (list : List (List ℕ)) × IsRisingListOfAll (IsFrom (IsStructure query) place) list
all_from query place fits =
    let listed = valid_codes_listed query fits in
    let p = pick (IsFrom (IsStructure query) place) (valid_codes query) listed.rises
    (λ xs held. known_both (known_structure query xs fits (listed.each xs held)) (known_not (below_or_not xs place))) in (
      p.picked,
      record { rises = p.rises; each = λ xs held. (p.each xs held).1; all = λ xs is. p.all xs (listed.all xs is.0.valid) is },
    )

-- ---- the first so many

holds_cut : (n : ℕ) (lists : List (List ℕ)) (xs : List ℕ) → Holds lists xs → Holds (take n lists) xs ⊎ Holds (drop n lists) xs
holds_cut zero lists xs is = inr is
holds_cut (suc n) [] xs is = absurd is
holds_cut (suc n) (ys ∷ lists) xs (inl same) = inl (inl same)
holds_cut (suc n) (ys ∷ lists) xs (inr is) = elim (holds_cut n lists xs is) [ inl h ↦ inl (inr h) | inr h ↦ inr h ]

full_take : (n : ℕ) (lists : List (List ℕ)) (xs : List ℕ) → Holds (drop n lists) xs → length (take n lists) ≡ n
full_take zero lists xs is = refl
full_take (suc n) [] xs is = absurd is
full_take (suc n) (ys ∷ lists) xs is = ap suc (full_take n lists xs is)

few_take : (n : ℕ) (lists : List (List ℕ)) → length (take n lists) ≤ n
few_take zero lists = omega arith
few_take (suc n) [] = omega arith
few_take (suc n) (ys ∷ lists) = (let rest = few_take n lists in omega (arith, rest))

taken_are_first : (most : ℕ) (P : List ℕ → Type 0) (all : List (List ℕ)) → IsRisingListOfAll P all → AreFirst most P (take most all)
taken_are_first most P all h = record {
  rises = take_rises most all h.rises;
  each = λ xs is. h.each xs (take_holds most all xs is);
  few = few_take most all;
  others = λ xs is. elim (holds_cut most all xs (h.all xs is)) [
    | inl early ↦ inl early
    | inr late ↦ inr (full_take most all xs late, holds_each (λ ys. IsBelow ys xs) (take most all) (λ ys early. take_below_drop most all ys xs h.rises early late))
  ];
}

-- some structures have texts
have_texts : (query : QueryView) (list : List (List ℕ)) → ((xs : List ℕ) → Holds list xs → IsStructure query xs) → (text : List ℕ) × AreTextsOf query list text
have_texts query [] each = ([], refl)
have_texts query (code ∷ list) each =
    let is : IsStructure query code = each code (inl refl) in
    let rest = have_texts query list (λ xs held. each xs (inr held)) in
    let drawn : IsStructure query code × IsTextOf query code (structure_text code (table_drawn is.graph)) =
    (is, record { structure = is; table = table_drawn is.graph; drawn = record { atoms = refl; bonds = refl; no_lists = refl; entries = refl }; is = refl }) in
    (structure_text code (table_drawn is.graph) ++ rest.0, (structure_text code (table_drawn is.graph), rest.0, refl, drawn.1, rest.1))

-- and there is one
pub some_enumeration : (query : QueryView) (place : List ℕ) (limit : ℕ) → QueryFits query → (found : Structures) × IsEnumeration query place limit found
some_enumeration query place limit fits =
    let all = all_from query place fits in
    let first = taken_are_first limit (IsFrom (IsStructure query) place) all.0 all.1 in
    let texts = have_texts query (take limit all.0) (λ xs held. (first.each xs held).0) in (
      record { codes = take limit all.0; text = texts.0; place = place_behind place (take limit all.0); ended = nat_lt (length (take limit all.0)) limit },
      record { first = first; texts = texts.1; behind = refl; ended = refl },
    )
