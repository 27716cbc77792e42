-- The first atoms of a hit, one after another.
--     begun_none        no atom is begun
--     begun_more        what may stand behind the first atoms goes on with them
--     hit_begins        each atom of a hit may stand behind those before it
--     begun_less        and without its last atoms they are begun too
--     begun_whole       as many atoms as the graph has are a hit
use Rattle.std.proofs.Common.{◌≡◌, ◌≢◌, ℕ, suc, ◌+◌, ◌<◌, ◌≤◌, ◌-◌, inl, inr, List, [], ◌∷◌, ◌++◌, length, get_or, take, refl, sym, subst, ◌∙◌, arith, All, Contains, append_assoc, length-append}
use Rattle.std.proofs.lemmas.Bool.{cases_lt}
use Rattle.std.proofs.lemmas.List.{take-append-le, take_all}
use Rattle.std.proofs.Math.ListN.{get_or-append}
use Rattle.std.proofs.Math.Seq.{get_or-append_seam}
use Rattle.std.proofs.lemmas.List.Elements.{All-push}
use Rattle.std.proofs.lemmas.List.Quantifiers.{all_pairs_push}
use Rattle.mk_model.specs.declared.graph.GraphBond.{GraphBond}
use Rattle.mk_model.specs.Molecules.{IsMolecule, Molecule}
use Rattle.mk_model.specs.Graphs.{GraphView, IsGraph}
use Rattle.mk_model.specs.Fitting.{FitsAtom, LiesOn}
use Rattle.mk_model.specs.Hits.{image, IsHit, IsPlainAt, IsPlainDrawn}
use Rattle.mk_model.proofs.ForCallers.{drawn_first}
use Rattle.mk_walk.specs.Begun.{IsBegun, MayStand}
use Rattle.mk_walk.specs.Hydrogens.{LeavesNoneFree}
use Rattle.mk_walk.specs.Table.{MayLie}
use Rattle.mk_walk.proofs.BondCountLemmas.{may_lie}
use Rattle.mk_walk.proofs.HydrogensLemmas.{begins_free, plain_least, plain_most}

-- the images of the first atoms stay
image_first : (first others : List ℕ) (x : ℕ) → 1 ≤ x → x ≤ length first → image (first ++ others) x ≡ image first x
image_first first others x least most = get_or-append first others 0 (x - 1) (omega arith)

-- the next one is the one behind them
image_next : (first others : List ℕ) (a x : ℕ) → x ≡ length first + 1 → image (first ++ (a ∷ others)) x ≡ a
image_next first others a x is =
    let place : x - 1 ≡ length first = omega arith in
    rw place (get_or-append_seam first a others 0)

-- a bond lies on a bond, whatever its ends are called
lies_by : (mol : Molecule) (bond : GraphBond) (a b c d : ℕ) → a ≡ c → b ≡ d → LiesOn mol bond a b → LiesOn mol bond c d
lies_by mol bond a b c d first second lies =
    let P : ℕ → Type 0 = λ n. LiesOn mol bond n d in
    let Q : ℕ → Type 0 = λ n. LiesOn mol bond a n in
    subst P first (subst Q second lies)

-- how long the first atoms and one more are
one_longer : (first : List ℕ) (a : ℕ) → length (first ++ (a ∷ [])) ≡ length first + 1
one_longer first a = length-append first (a ∷ [])

-- before the first atom
pub begun_none : (graph : GraphView) (mol : Molecule) → All (λ bond. bond.first < bond.second) graph.bonds → IsBegun graph mol []
begun_none graph mol lower = record {
  short = omega arith;
  within = λ k d within. absurd (omega arith);
  distinct = λ i j d order within. absurd (omega arith);
  atoms = λ x least most. absurd (omega arith);
  bonds = λ k d within up_to. (let less = lower k d within in absurd (omega arith));
  rise = λ x h later plain other order early. absurd (omega arith);
  first_free = λ size few.
      (let none : size ≡ 0 = omega arith in
      subst (λ (n : ℕ). LeavesNoneFree graph mol (take n [])) (sym none) (λ x h m y plain early at_h at_y under. absurd (omega arith)));
}

-- ---- one atom more

module _ (graph : GraphView) (mol : Molecule) (first : List ℕ) (a : ℕ) where
  -- the test of each atom is met
  atoms_more : IsBegun graph mol first → MayStand graph mol first a → (x : ℕ) → 1 ≤ x → x ≤ length (first ++ (a ∷ [])) → FitsAtom graph mol x (image (first ++ (a ∷ [])) x)
  atoms_more begun stands x least most =
      let P : ℕ → Type 0 = λ n. FitsAtom graph mol x n in
      elim (cases_lt (length first) x) [
        | inl last ↦
            let is : x ≡ length first + 1 = omega (arith, one_longer first a) in
            let Q : ℕ → Type 0 = λ n. FitsAtom graph mol n a in
            subst P (sym (image_next first [] a x is)) (subst Q (sym is) stands.fits.fits)
        | inr early ↦ subst P (sym (image_first first (a ∷ []) x least early)) (begun.atoms x least early)
      ]

  -- and so is that of each bond
  bonds_more : All (λ bond. bond.first < bond.second) graph.bonds → All (λ bond. 1 ≤ bond.first) graph.bonds → IsBegun graph mol first → MayStand graph mol first a
      → All (λ bond. bond.second ≤ length (first ++ (a ∷ [])) → LiesOn mol bond (image (first ++ (a ∷ [])) bond.first) (image (first ++ (a ∷ [])) bond.second)) graph.bonds
  bonds_more lower least begun stands = λ k d within up_to.
      let bond : GraphBond = get_or graph.bonds k d in
      let less : bond.first < bond.second = lower k d within in
      let from : 1 ≤ bond.first = least k d within in
      let long = one_longer first a in
      let early : bond.first ≤ length first = omega arith in
      let same : image first bond.first ≡ image (first ++ (a ∷ [])) bond.first = sym (image_first first (a ∷ []) bond.first from early) in
      elim (cases_lt (length first) bond.second) [
        | inl last ↦
            let is : bond.second ≡ length first + 1 = omega arith in
            lies_by mol bond _ _ _ _ same (sym (image_next first [] a bond.second is)) (stands.bonds k d within is)
        | inr up ↦
            let from' : 1 ≤ bond.second = omega arith in
            lies_by mol bond _ _ _ _ same (sym (image_first first (a ∷ []) bond.second from' up)) (begun.bonds k d within up)
      ]

  -- the images of plain hydrogens rise
  rise_more : All (λ bond. bond.first < bond.second) graph.bonds → All (λ bond. 1 ≤ bond.first) graph.bonds → IsBegun graph mol first → MayStand graph mol first a
      → (x h later : ℕ) → IsPlainDrawn graph x h → IsPlainDrawn graph x later → h < later → later ≤ length (first ++ (a ∷ [])) → image (first ++ (a ∷ [])) h < image (first ++ (a ∷ [])) later
  rise_more lower least begun stands x h later plain other order up_to =
      let from : 1 ≤ h = plain_least graph x h lower least plain in
      let long = one_longer first a in
      let same : image (first ++ (a ∷ [])) h ≡ image first h = image_first first (a ∷ []) h from (omega arith) in
      elim (cases_lt (length first) later) [
        | inl last ↦
            let is : later ≡ length first + 1 = omega arith in
            let next : image (first ++ (a ∷ [])) later ≡ a = image_next first [] a later is in
            let rises : image first h < a = stands.rise x h plain (subst (IsPlainDrawn graph x) is other) (omega arith) in
            omega arith
        | inr early ↦
            let there : image (first ++ (a ∷ [])) later ≡ image first later = image_first first (a ∷ []) later (omega arith) early in
            let rises : image first h < image first later = begun.rise x h later plain other order early in
            omega arith
      ]

  -- and none is left free on the way
  free_more : IsBegun graph mol first → MayStand graph mol first a → (size : ℕ) → size ≤ length (first ++ (a ∷ [])) → LeavesNoneFree graph mol (take size (first ++ (a ∷ [])))
  free_more begun stands size up_to =
      elim (cases_lt (length first) size) [
        | inl last ↦
            let whole : take size (first ++ (a ∷ [])) ≡ first ++ (a ∷ []) = take_all size (first ++ (a ∷ [])) (omega (arith, one_longer first a)) in
            subst (LeavesNoneFree graph mol) (sym whole) stands.first_free
        | inr early ↦ subst (LeavesNoneFree graph mol) (sym (take-append-le size first (a ∷ []) early)) (begun.first_free size early)
      ]

  -- what may stand behind the first atoms goes on with them
  pub begun_more : All (λ bond. bond.first < bond.second) graph.bonds → All (λ bond. 1 ≤ bond.first) graph.bonds → IsBegun graph mol first → MayStand graph mol first a
      → length first < length graph.atoms → 1 ≤ a → a ≤ length mol.atoms → IsBegun graph mol (first ++ (a ∷ []))
  begun_more lower least begun stands room from to = record {
    short = (let long = one_longer first a in omega arith);
    within = All-push (λ n. (1 ≤ n) × (n ≤ length mol.atoms)) first a begun.within (from, to);
    distinct = all_pairs_push (λ m n. m ≢ n) first a begun.distinct (λ k d within. stands.new k d within);
    atoms = atoms_more begun stands;
    bonds = bonds_more lower least begun stands;
    rise = rise_more lower least begun stands;
    first_free = free_more begun stands;
  }

  -- ---- the atoms of a hit

  -- a hit goes on behind the first atoms with one of the molecule that may stand there
  pub hit_begins : IsGraph graph → IsMolecule mol → (others : List ℕ) → IsHit graph mol (first ++ (a ∷ others))
      → MayStand graph mol first a × (1 ≤ a) × (a ≤ length mol.atoms)
  hit_begins drawing molecule others hit =
      let lower = drawing.sketch.lower_first in
      let least = drawn_first graph drawing in
      let long : length (first ++ (a ∷ others)) ≡ length first + suc (length others) = length-append first (a ∷ others) in
      let here : get_or (first ++ (a ∷ others)) (length first) 0 ≡ a = get_or-append_seam first a others 0 in
      let below : length first < length (first ++ (a ∷ others)) = omega arith in
      let P : ℕ → Type 0 = λ n. (1 ≤ n) × (n ≤ length mol.atoms) in
      let in_range : (1 ≤ a) × (a ≤ length mol.atoms) = subst P here (hit.within (length first) 0 below) in
      let Q : ℕ → Type 0 = λ n. MayLie graph mol (length first + 1) n in
      let up_to : length first + 1 ≤ length graph.atoms = omega (arith, hit.one_each) in
      let from : 1 ≤ length first + 1 = omega arith in (
        record {
          fits = subst Q (image_next first others a (length first + 1) refl) (may_lie graph mol (first ++ (a ∷ others)) (length first + 1) drawing molecule hit from up_to);
          new = λ k d within same.
              hit.distinct k (length first) d within below
              (get_or-append first (a ∷ others) d k within ∙ same ∙ sym (get_or-append_seam first a others d));
          bonds = λ k d within is.
              let bond : GraphBond = get_or graph.bonds k d in
              let less : bond.first < bond.second = lower k d within in
              let from' : 1 ≤ bond.first = least k d within in
              let early : bond.first ≤ length first = omega arith in
              lies_by mol bond _ _ _ _ (image_first first (a ∷ others) bond.first from' early) (image_next first others a bond.second is) (hit.bonds k d within);
          rise = λ x h plain other early.
              let least' : 1 ≤ h = plain_least graph x h lower least plain in
              let same : image (first ++ (a ∷ others)) h ≡ image first h = image_first first (a ∷ others) h least' early in
              let next : image (first ++ (a ∷ others)) (length first + 1) ≡ a = image_next first others a (length first + 1) refl in
              let rises : image (first ++ (a ∷ others)) h < image (first ++ (a ∷ others)) (length first + 1) = hit.rise x h (length first + 1) plain other (omega arith) in
              omega arith;
          first_free = begins_free graph mol drawing (first ++ (a ∷ [])) others (subst (IsHit graph mol) (sym (append_assoc first (a ∷ []) others)) hit);
        },
        in_range.0,
        in_range.1,
      )

-- ---- one atom less

-- what may begin a hit may do so without its last atoms
pub begun_less : (graph : GraphView) (mol : Molecule) (first others : List ℕ)
    → All (λ bond. bond.first < bond.second) graph.bonds → All (λ bond. 1 ≤ bond.first) graph.bonds
    → IsBegun graph mol (first ++ others) → IsBegun graph mol first
begun_less graph mol first others lower least begun =
    let long = length-append first others in
    record {
      short = omega (arith, begun.short);
      within = λ k d within.
          (let P : ℕ → Type 0 = λ n. (1 ≤ n) × (n ≤ length mol.atoms) in
          let below : k < length (first ++ others) = omega arith in
          subst P (get_or-append first others d k within) (begun.within k d below));
      distinct = λ i j d order within.
          (let below : j < length (first ++ others) = omega arith in
          let early : i < length first = omega arith in
          λ same. begun.distinct i j d order below (get_or-append first others d i early ∙ same ∙ sym (get_or-append first others d j within)));
      atoms = λ x from to.
          (let P : ℕ → Type 0 = λ n. FitsAtom graph mol x n in
          let up_to : x ≤ length (first ++ others) = omega arith in
          subst P (image_first first others x from to) (begun.atoms x from up_to));
      bonds = λ k d within up_to.
          (let bond : GraphBond = get_or graph.bonds k d in
          let less : bond.first < bond.second = lower k d within in
          let from : 1 ≤ bond.first = least k d within in
          let early : bond.first ≤ length first = omega arith in
          let from' : 1 ≤ bond.second = omega arith in
          let within_all : bond.second ≤ length (first ++ others) = omega arith in
          lies_by mol bond _ _ _ _ (image_first first others bond.first from early) (image_first first others bond.second from' up_to) (begun.bonds k d within within_all));
      rise = λ x h later plain other order early.
          (let from : 1 ≤ h = plain_least graph x h lower least plain in
          let here : image (first ++ others) h ≡ image first h = image_first first others h from (omega arith) in
          let there : image (first ++ others) later ≡ image first later = image_first first others later (omega arith) early in
          let rises : image (first ++ others) h < image (first ++ others) later = begun.rise x h later plain other order (omega arith) in
          omega arith);
      first_free = λ size early. subst (LeavesNoneFree graph mol) (take-append-le size first others early) (begun.first_free size (omega arith));
    }

-- ---- the whole

-- behind the last atom no taker is left
none_left_free : (graph : GraphView) (mol : Molecule) (first : List ℕ) → length first ≡ length graph.atoms → LeavesNoneFree graph mol first
    → (x h m y : ℕ) → IsPlainDrawn graph x h → IsPlainAt mol m (image first h) → IsPlainAt mol m y → y < image first h → Contains first y
none_left_free graph mol first whole free x h m y plain at_h at_y under =
    let most = plain_most graph x h plain in
    elim (free x h m y plain (omega arith) at_h at_y under) [
      | inl held ↦ held
      | inr behind ↦ absurd (omega (arith, behind.behind, behind.taker.most))
    ]

-- as many atoms as the graph has are a hit
pub begun_whole : (graph : GraphView) (mol : Molecule) (first : List ℕ)
    → All (λ bond. bond.second ≤ length graph.atoms) graph.bonds → IsBegun graph mol first
    → length first ≡ length graph.atoms → IsHit graph mol first
begun_whole graph mol first within begun whole = record {
  one_each = whole;
  within = begun.within;
  distinct = begun.distinct;
  atoms = λ x least most. (let up_to : x ≤ length first = omega arith in begun.atoms x least up_to);
  bonds = λ k d below. (let up_to = within k d below in begun.bonds k d below (omega arith));
  rise = λ x h later plain other order. (let most = plain_most graph x later other in begun.rise x h later plain other order (omega arith));
  first_free = λ x h y plain at_h at_y under.
      (let all : take (length first) first ≡ first = take_all (length first) first (omega arith) in
      none_left_free graph mol first whole (subst (LeavesNoneFree graph mol) all (begun.first_free (length first) (omega arith))) x h (image first x) y plain at_h at_y under);
}

-- a hit has no more atoms than the graph
pub no_more : (graph : GraphView) (mol : Molecule) (first others : List ℕ) → length first ≡ length graph.atoms → IsHit graph mol (first ++ others) → others ≡ []
no_more graph mol first [] whole hit = refl
no_more graph mol first (a ∷ others) whole hit = absurd (omega (arith, hit.one_each, length-append first (a ∷ others)))
