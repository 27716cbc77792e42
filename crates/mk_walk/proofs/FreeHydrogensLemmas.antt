-- What plain hydrogens ask where an atom is put behind the first ones.
--     order_met, order_free, order_asked     what all that are listed ask is what the atom has to keep
--     have_numbers, image_range              numbers of the list, and the images that they name
--     lower_taken, lower_given               the hydrogens of an atom, by its bonds
--     put_held, put_itself, held_by          what is among the first images and one more
use Rattle.std.proofs.Common.{◌≡◌, ℕ, ◌+◌, ◌<◌, ◌≤◌, ◌-◌, ◌⊎◌, inl, inr, List, [], ◌∷◌, ◌++◌, length, get_or, take, sym, subst, ◌∙◌, arith, All, Contains, length-append}
use Rattle.std.proofs.Math.ListN.{get_or-append}
use Rattle.std.proofs.Math.Seq.{get_or-append_seam}
use Rattle.std.proofs.lemmas.Bool.{cases_lt, cases_eq}
use Rattle.std.proofs.lemmas.List.{take_all}
use Rattle.std.proofs.lemmas.List.Elements.{All-push}
use Rattle.mk_model.specs.Edges.{numbers_at}
use Rattle.mk_model.specs.Molecules.{Molecule, edges}
use Rattle.mk_model.specs.Graphs.{GraphView, IsGraph}
use Rattle.mk_model.specs.Hits.{image, IsPlainAt, IsPlainDrawn}
use Rattle.mk_walk.specs.declared.hydrogens.PlainHydrogen.{PlainHydrogen}
use Rattle.mk_walk.specs.Begun.{IsBegun}
use Rattle.mk_walk.specs.Candidates.{end_numbered}
use Rattle.mk_walk.specs.Hydrogens.{ArePlain, AreLowerTaken, HasNumbers, IsEndTaken, IsEntry, IsInOrder, IsTaker, LeavesNoneFree}
use Rattle.mk_walk.proofs.CandidateLemmas.{bonded_end}
use Rattle.mk_walk.proofs.HydrogensLemmas.{are_drawn, one_host, one_host_at}

-- ---- one more behind the first images

-- what is among the first is among them and one more
pub put_held : (first : List ℕ) (a z : ℕ) → Contains first z → Contains (first ++ a ∷ []) z
put_held first a z held =
    let within : held.0 < length first = held.1 in
    (held.0, omega (arith, length-append first (a ∷ [])), get_or-append first (a ∷ []) z held.0 within ∙ held.2)

-- and so is the one
pub put_itself : (first : List ℕ) (a : ℕ) → Contains (first ++ a ∷ []) a
put_itself first a = (length first, omega (arith, length-append first (a ∷ [])), get_or-append_seam first a [] a)

-- what is among them is one of the first, or the one
pub held_by : (first : List ℕ) (a z : ℕ) → Contains (first ++ a ∷ []) z → Contains first z ⊎ (z ≡ a)
held_by first a z held =
    let k = held.0 in
    let within : k < length (first ++ a ∷ []) = held.1 in
    elim (cases_lt k (length first)) [
      | inl here ↦ inl (k, here, sym (get_or-append first (a ∷ []) z k here) ∙ held.2)
      | inr last ↦
          let is : k ≡ length first = omega (arith, length-append first (a ∷ [])) in
          let there : get_or (first ++ a ∷ []) k z ≡ a = rw is (get_or-append_seam first a [] z) in
          inr (sym held.2 ∙ there)
    ]

-- the image of an atom is one of the molecule
pub image_range : (size : ℕ) (first : List ℕ) (a x : ℕ) → All (λ b. (1 ≤ b) × (b ≤ size)) first → 1 ≤ a → a ≤ size → x ≤ length first + 1 → 1 ≤ x
    → (1 ≤ image (first ++ a ∷ []) x) × (image (first ++ a ∷ []) x ≤ size)
image_range size first a x within least most early from =
    All-push (λ b. (1 ≤ b) × (b ≤ size)) first a within (least, most) (x - 1) 0 (omega (arith, length-append first (a ∷ [])))

-- ---- the hydrogens of an atom, by its bonds

-- where the ends of all bonds of atom m are taken that are hydrogens below y, all these hydrogens are
pub lower_taken : (mol : Molecule) (taken : List ℕ) (m y : ℕ) → IsPlainAt mol m y → All (IsEndTaken mol taken m y) (numbers_at (edges mol.bonds) m) → AreLowerTaken mol taken y
lower_taken mol taken m y at_y all n z other at_z under =
    let same : n ≡ m = one_host_at mol n m y other at_y in
    let there : IsPlainAt mol m z = subst (λ (k : ℕ). IsPlainAt mol k z) same at_z in
    let end = bonded_end mol m z (there.bond, there.joins) in
    let asks : IsEndTaken mol taken m y (get_or (numbers_at (edges mol.bonds) m) end.place 0) = all end.place 0 end.within in
    let P : ℕ → Type 0 = λ k. IsPlainAt mol m k → k < y → Contains taken k in
    let taken_there : IsPlainAt mol m z → z < y → Contains taken z = subst P end.is asks in
    taken_there there under

-- and the other way round
pub lower_given : (mol : Molecule) (taken : List ℕ) (m y : ℕ) → IsPlainAt mol m y → AreLowerTaken mol taken y → (number : ℕ) → IsEndTaken mol taken m y number
lower_given mol taken m y at_y all number plain under = all m (end_numbered mol.bonds number m) at_y plain under

-- ---- the list

-- the numbers of each that is listed rise
pub have_numbers : (graph : GraphView) (list : List PlainHydrogen) → ArePlain graph list → All HasNumbers list
have_numbers graph list all i d below = (let entry = all.each i d below in record { least = entry.least; before = entry.before.under; due = entry.due.from })

-- one that is listed, as atom h on x
record IsKnown (graph : GraphView) (list : List PlainHydrogen) (x h : ℕ) : Type 0 where
  one : PlainHydrogen
  has : Contains list one
  entry : IsEntry graph one
  atom : one.atom ≡ h
  host : one.host ≡ x

module _ (graph : GraphView) (mol : Molecule) (drawing : IsGraph graph) (list : List PlainHydrogen) (all : ArePlain graph list) (first : List ℕ) (a : ℕ) where
  -- each plain hydrogen is listed
  known : (x h : ℕ) → IsPlainDrawn graph x h → IsKnown graph list x h
  known x h plain =
      let listed = all.all x h plain in
      let entry : IsEntry graph listed.one = subst (IsEntry graph) listed.has.2 (all.each listed.has.0 listed.one listed.has.1) in
      record {
        one = listed.one;
        has = listed.has;
        entry = entry;
        atom = listed.is;
        host = one_host graph listed.one.host x h (subst (IsPlainDrawn graph listed.one.host) listed.is entry.plain) plain;
      }

  long : length (first ++ a ∷ []) ≡ length first + 1
  long = length-append first (a ∷ [])

  module _ (begun : IsBegun graph mol first) (met : All (IsInOrder mol first a) list) where
    -- what one that is listed asks is met
    asks : (one : PlainHydrogen) → Contains list one → IsInOrder mol first a one
    asks one has = subst (IsInOrder mol first a) has.2 (met has.0 one has.1)

    -- where all that are listed are in order, the images of plain hydrogens rise
    pub order_met : (x h : ℕ) → IsPlainDrawn graph x h → IsPlainDrawn graph x (length first + 1) → h ≤ length first → image first h < a
    order_met x h plain next early =
        let k = known x (length first + 1) next in
        let own : IsPlainDrawn graph k.one.host h = subst (λ (n : ℕ). IsPlainDrawn graph n h) (sym k.host) plain in
        let least = (are_drawn graph x h drawing plain).least in
        let before = k.entry.before in
        let nearest : h ≤ k.one.before = before.last h own (omega (arith, k.atom)) in
        let some : 1 ≤ k.one.before = omega arith in
        let above : image first k.one.before < a = (asks k.one k.has).above k.atom some in
        elim (cases_eq h k.one.before) [
          | inl same ↦ subst (λ (n : ℕ). image first n < a) (sym same) above
          | inr other ↦
              let rises : image first h < image first k.one.before =
              begun.rise k.one.host h k.one.before own (before.plain some) (omega arith) (omega (arith, before.under, k.atom)) in
              omega arith
        ]

    -- and no hydrogen is left free
    pub order_free : LeavesNoneFree graph mol (first ++ a ∷ [])
    order_free x h m y plain early at_h at_y under =
        let k = known x h plain in
        let due = k.entry.due in
        let least = (are_drawn graph x h drawing plain).least in
        elim (cases_lt k.one.due (length first + 1)) [
          | inl passed ↦
              let within : h ≤ length first = omega (arith, due.from, k.atom) in
              let same : image (first ++ a ∷ []) h ≡ image first h = get_or-append first (a ∷ []) 0 (h - 1) (omega arith) in
              let whole : take (length first) first ≡ first = take_all (length first) first (omega arith) in
              let none : LeavesNoneFree graph mol first = subst (LeavesNoneFree graph mol) whole (begun.first_free (length first) (omega arith)) in
              let lower : y < image first h = subst (λ (n : ℕ). y < n) same under in
              elim (none x h m y plain within (subst (IsPlainAt mol m) same at_h) at_y lower) [
                | inl held ↦ inl (put_held first a y held)
                | inr behind ↦
                    let most : behind.e ≤ k.one.due = due.last behind.e (subst (λ (n : ℕ). IsTaker graph n behind.e) (sym k.host) behind.taker) in
                    absurd (omega (arith, behind.behind))
              ]
          | inr on ↦ elim (cases_eq k.one.due (length first + 1)) [
            | inl now ↦
                let P : ℕ → Type 0 = λ n. IsPlainAt mol m (image (first ++ a ∷ []) n) in
                let Q : ℕ → Type 0 = λ n. y < image (first ++ a ∷ []) n in
                inl ((asks k.one k.has).free now m y (subst P (sym k.atom) at_h) at_y (subst Q (sym k.atom) under))
            | inr later ↦
                inr (record {
                  e = k.one.due;
                  behind = omega (arith, long);
                  taker = subst (λ (n : ℕ). IsTaker graph n k.one.due) k.host (due.taker (omega (arith, long, k.atom)));
                })
          ]
        ]

  -- where the images rise and none is left free, all that are listed are in order
  pub order_asked : ((x h : ℕ) → IsPlainDrawn graph x h → IsPlainDrawn graph x (length first + 1) → h ≤ length first → image first h < a)
      → LeavesNoneFree graph mol (first ++ a ∷ []) → All (IsInOrder mol first a) list
  order_asked rise free i d below =
      let entry = all.each i d below in
      record {
        above = λ now some. rise _ _ (entry.before.plain some) (subst (IsPlainDrawn graph (get_or list i d).host) now entry.plain) (omega (arith, entry.before.under, now));
        free = λ now m z at_y at_z under.
            elim (free (get_or list i d).host (get_or list i d).atom m z entry.plain (omega (arith, long, entry.due.from, now)) at_y at_z under) [
              | inl held ↦ held
              | inr behind ↦ absurd (omega (arith, behind.behind, entry.due.last behind.e behind.taker, now, long))
            ];
      }
