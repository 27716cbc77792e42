-- Graphs that are kept under keys, and what a molecule doesn't hold of them.
--     found, refused                   a graph that is found under a key
--     put, swapped                     one more that is kept, and one that is taken out
--     key_of_alone, alone_of_key       the key of a number alone, and its open code
use Rattle.std.proofs.Common.{◌≡◌, ℕ, ◌-◌, Bool, true, List, [], ◌∷◌, length, replicate, position, bytes_eq, Option, Some, None, All, sym, ap, ◌∙◌, subst, append_assoc, arith}
use Rattle.std.specs.Global.{Vec}
use Rattle.std.specs.Map.{keys_of, lookup}
use Rattle.std.specs.Option.{option_map_or}
use Rattle.std.specs.List.{swap_remove}
use Rattle.std.proofs.lemmas.Bool.{cond_both}
use Rattle.std.proofs.lemmas.List.Elements.{All-cons, All-head, All-set, All-tail, All-take}
use Rattle.std.proofs.lemmas.Slice.Eq.{bytes_eq-Decides}
use Rattle.indexmap.specs.IndexMap.{insert_entry, swap_remove_entry}
use Rattle.mk_model.specs.Graphs.{GraphView}
use Rattle.mk_model.specs.Molecules.{Molecule}
use Rattle.mk_model.specs.Queries.{QueryView}
use Rattle.mk_model.specs.Hits.{HasNoEmbedding}
use Rattle.mk_open_codes.specs.Alone.{HoldsNoneAlone, IsAloneCode, alone_code}
use Rattle.mk_open_codes.specs.Fronts.{IsFrontCode, front_code}
use Rattle.mk_fronts.specs.Asks.{AreAsksOf, HoldsNoGraph, IsAskOf}

-- ---- what is kept

some_same : {A : Type 0} (a b : A) → Some a ≡ Some b → a ≡ b
some_same a b is = cc

-- a graph that is found under a key is that of the key
pub found : (query : QueryView) (key : List ℕ) (es : List (Vec ℕ × GraphView)) (graph : GraphView) → AreAsksOf query es
    → lookup (λ k. bytes_eq key k.items) es ≡ Some graph → IsAskOf query key graph
found query key [] graph are is = cc
found query key (e ∷ es) graph are is =
    cond_both (bytes_eq key e.0.items) (Some e.1) (lookup (λ k. bytes_eq key k.items) es)
    (λ (o : Option GraphView). o ≡ Some graph → IsAskOf query key graph)
    (λ here. λ this.
    let same : key ≡ e.0.items = (bytes_eq-Decides key e.0.items).0 here in
    let first : IsAskOf query e.0.items e.1 = All-head (λ entry. IsAskOf query entry.0.items entry.1) e es are in
    subst (λ (k : List ℕ). IsAskOf query k graph) (sym same) (subst (IsAskOf query e.0.items) (some_same e.1 graph this) first))
    (λ other. λ later. found query key es graph (All-tail (λ entry. IsAskOf query entry.0.items entry.1) e es are) later)
    is

-- a graph that is found, and has no embedding
pub refused : (query : QueryView) (mol : Molecule) (key : List ℕ) (es : List (Vec ℕ × GraphView)) (graph : GraphView) → AreAsksOf query es
    → lookup (λ k. bytes_eq key k.items) es ≡ Some graph → HasNoEmbedding graph mol → HoldsNoGraph query mol key
refused query mol key es graph are is none = record { part = graph; of = found query key es graph are is; none = none }

module _ (query : QueryView) (eq : Vec ℕ → Vec ℕ → Bool) (same : (a b : Vec ℕ) → eq a b ≡ true → a.items ≡ b.items) where
  -- one more that is kept
  pub put : (es : List (Vec ℕ × GraphView)) (key : Vec ℕ) (graph : GraphView) → AreAsksOf query es → IsAskOf query key.items graph
      → AreAsksOf query (insert_entry eq es key graph)
  put [] key graph are is = All-cons (λ entry. IsAskOf query entry.0.items entry.1) (key, graph) [] is are
  put (e ∷ es) key graph are is =
      let P : Vec ℕ × GraphView → Type 0 = λ entry. IsAskOf query entry.0.items entry.1 in
      let rest = All-tail P e es are in
      cond_both (eq key e.0) ((e.0, graph) ∷ es) (e ∷ insert_entry eq es key graph) (All P)
      (λ here. All-cons P (e.0, graph) es (subst (λ (k : List ℕ). IsAskOf query k graph) (same key e.0 here) is) rest)
      (λ other. All-cons P e (insert_entry eq es key graph) (All-head P e es are) (put es key graph rest is))

-- what holds of all entries holds of those that are left
pub swapped : (P : Vec ℕ × GraphView → Type 0) (test : Vec ℕ → Bool) (es : List (Vec ℕ × GraphView)) → All P es → All P (swap_remove_entry test es)
swapped P test [] are = are
swapped P test (e ∷ es) are = by (position test (keys_of (e ∷ es)))
  where
    by : (o : Option ℕ) → All P (option_map_or (λ i. swap_remove (e ∷ es) i e) o (e ∷ es))
    by None = are
    by (Some i) =
        let last = are (length (e ∷ es) - 1) e (omega arith) in
        All-take P (length (e ∷ es) - 1) _ (All-set P (e ∷ es) i _ last are)

-- ---- a number alone

-- behind the key of a number alone stand zeros
joined : (s n k : ℕ) → alone_code s n k ≡ front_code (alone_code s n 0) k
joined s n k = sym (append_assoc (replicate s 0) (n ∷ []) (replicate k 0))

pub key_of_alone : (query : QueryView) (s n : ℕ) (key code : List ℕ) → key ≡ alone_code s n 0 → IsAloneCode query s n code → IsFrontCode query key code
key_of_alone query s n key code is of =
    record { left = of.left; spelt = of.spelt ∙ joined s n of.left ∙ ap (λ (k : List ℕ). front_code k of.left) (sym is); is = of.is }

pub alone_of_key : (query : QueryView) (mol : Molecule) (s n : ℕ) (key : List ℕ) → key ≡ alone_code s n 0 → HoldsNoGraph query mol key
    → HoldsNoneAlone query mol s n
alone_of_key query mol s n key is none = record {
  code = none.of.code;
  part = none.part;
  is = record {
    left = none.of.is.left;
    spelt = none.of.is.spelt ∙ ap (λ (k : List ℕ). front_code k none.of.is.left) is ∙ sym (joined s n none.of.is.left);
    is = none.of.is.is;
  };
  graph = none.of.made;
  none = none.none;
}
