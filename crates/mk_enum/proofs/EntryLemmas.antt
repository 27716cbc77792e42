-- Property lines, appended atom by atom.
--     six_pushed                        the lines of one atom
--     entries_more, entries_all         those of all atoms
--     ends_few                          the ends of bonds are small numbers
--     same_small, same_natural, same_flag    small numbers as wider ones
use Rattle.std.proofs.Common.{if◌then◌else◌, Bool, true, false, ◌≡◌, ◌<◌, ◌≤◌, ◌+◌, ℕ, List, ◌++◌, length, get_or, drop, sym, ap, ◌∙◌, append_assoc, append-nil, arith, All, SFits, of_z, to_z, w8, w32}
use Rattle.std.specs.Prelude.{ℤ, pos}
use Rattle.std.proofs.lemmas.Int.{ints}
use Rattle.std.proofs.lemmas.List.{drop_all, drop_more}
use Rattle.mk_props.specs.declared.property.Property.{Property}
use Rattle.mk_model.specs.declared.graph.GraphAtom.{GraphAtom}
use Rattle.mk_model.specs.Graphs.{GraphView, IsGraph}
use Rattle.mk_model.proofs.ForCallers.{drawn_between}
use Rattle.mk_enum.specs.StructureTables.{atom_entries, entries_from}

two_pushed : (start one two a b : List Property) → one ≡ start ++ a → two ≡ one ++ b → two ≡ start ++ (a ++ b)
two_pushed start one two a b e f = f ∙ ap (λ (x : List Property). x ++ b) e ∙ append_assoc start a b

-- six lists one after the other
pub six_pushed : (start one two three four five six a b c d e f : List Property) → one ≡ start ++ a → two ≡ one ++ b → three ≡ two ++ c → four ≡ three ++ d → five ≡ four ++ e → six ≡ five ++ f
    → six ≡ start ++ (a ++ (b ++ (c ++ (d ++ (e ++ f)))))
six_pushed start one two three four five six a b c d e f p q r s t u =
    let last = two_pushed four five six e f t u in
    let fourth = two_pushed three four six d (e ++ f) s last in
    let third = two_pushed two three six c (d ++ (e ++ f)) r fourth in
    let second = two_pushed one two six b (c ++ (d ++ (e ++ f))) q third in
    two_pushed start one six a (b ++ (c ++ (d ++ (e ++ f)))) p second

-- one atom more
pub entries_more : (props new : List Property) (atoms : List GraphAtom) (i : ℕ) (d : GraphAtom) → i < length atoms
    → props ++ entries_from (i + 1) (drop i atoms) ≡ entries_from 1 atoms → new ≡ props ++ atom_entries (i + 1) (get_or atoms i d).test
    → new ++ entries_from (i + 1 + 1) (drop (i + 1) atoms) ≡ entries_from 1 atoms
entries_more props new atoms i d below so_far is =
    ap (λ (ps : List Property). ps ++ entries_from (i + 1 + 1) (drop (i + 1) atoms)) is
    ∙ append_assoc props (atom_entries (i + 1) (get_or atoms i d).test) (entries_from (i + 1 + 1) (drop (i + 1) atoms))
    ∙ sym (ap (λ (left : List GraphAtom). props ++ entries_from (i + 1) left) (drop_more atoms i d below)) ∙ so_far

-- no atom is left
pub entries_all : (props : List Property) (atoms : List GraphAtom) (i : ℕ) → length atoms ≤ i → props ++ entries_from (i + 1) (drop i atoms) ≡ entries_from 1 atoms → props ≡ entries_from 1 atoms
entries_all props atoms i past so_far =
    sym (append-nil props) ∙ ap (λ (left : List GraphAtom). props ++ entries_from (i + 1) left) (sym (drop_all i atoms past)) ∙ so_far

-- the ends of bonds are numbers of atoms, of which there are few
pub ends_few : (graph : GraphView) → IsGraph graph → All (λ bond. (bond.first ≤ 512) × (bond.second ≤ 512)) graph.bonds
ends_few graph is k d below =
    let between = drawn_between graph is k d below in
    (omega (arith, between.first.1, is.sketch.few), omega (arith, between.second.1, is.sketch.few))

-- ---- casts

-- a small number with a sign, as a wider one
pub same_small : (z r : ℤ) → SFits w8 z → r ≡ to_z w8 (of_z w8 z) → to_z w32 (of_z w32 r) ≡ z
same_small z r fits is = omega (arith, ints)

-- a small natural number, as a wider one with a sign
pub same_natural : (n : ℕ) (r : ℤ) → n < 256 → r ≡ pos n → to_z w32 (of_z w32 r) ≡ pos n
same_natural n r small is = omega (arith, ints)

-- 1 or 0, as a wider number with a sign
pub same_flag : (b : Bool) (r : ℤ) → r ≡ if b then pos 1 else pos 0 → to_z w32 (of_z w32 r) ≡ if b then pos 1 else pos 0
same_flag true r is = omega (arith, ints)
same_flag false r is = omega (arith, ints)
