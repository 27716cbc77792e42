-- Sites: what is noted of them, and where they stand.
use Rattle.std.proofs.Common.{◌≡◌, ℕ, ◌+◌, ◌-◌, ◌<◌, ◌≤◌, Bool, true, false, not, ◌||◌, List, [], ◌∷◌, All, Option, Some, None, length, map, refl, sym, ap, ◌∙◌, get_or, arith}
use Rattle.std.specs.Option.{option_map, unwrap_or}
use Rattle.std.specs.Prelude.{slice_get, IsTrue}
use Rattle.std.proofs.lemmas.Bool.{and_parts, and_from, true≢false, not-true}
use Rattle.std.proofs.lemmas.List.Elements.{All-cons, All-head, All-nil, All-tail}
use Rattle.std.proofs.lemmas.Option.{slice_get-map, unwrap_or-slice_get}
use Rattle.mk_tables.specs.declared.raw.RawAtom.{RawAtom}
use Rattle.mk_tables.specs.declared.raw.RawTable.{RawTable}
use Rattle.mk_query.specs.declared.drawn.Near.{Near}
use Rattle.mk_query.specs.declared.drawn.Near.TheVariants as near
use Rattle.mk_query.specs.Drawn.{drawn_neighbours, is_site, is_site_at}
use Rattle.mk_query.specs.Marks.{are_apart, AreMarks, IsNear, site_mark}
use Rattle.mk_query.specs.SiteChecks.{ArePlaced}

-- what is noted of an atom is whether it is a site
pub site_noted : (table : RawTable) (sites : List Bool) (x : ℕ) → sites ≡ map is_site table.atoms → site_mark sites x ≡ is_site_at table x
site_noted table sites x are =
    ap (λ (l : List Bool). get_or l (x - 1) false) are
    ∙ sym (unwrap_or-slice_get (map is_site table.atoms) (x - 1) false)
    ∙ ap (λ (o : Option Bool). unwrap_or o false) (slice_get-map is_site table.atoms (x - 1))
    ∙ by_atom (slice_get table.atoms (x - 1)) refl
  where
    by_atom : (found : Option RawAtom) → slice_get table.atoms (x - 1) ≡ found → unwrap_or (option_map is_site (slice_get table.atoms (x - 1))) false ≡ is_site_at table x
    by_atom None e = rw e refl
    by_atom (Some atom) e = rw e refl

-- what is noted of the neighbours of the atom at a place
pub near_at : (table : RawTable) (marks : List Near) (i : ℕ) (n : Near) → i < length marks
    → AreMarks (λ x. IsNear (drawn_neighbours table x)) marks → n ≡ get_or marks i n
    → IsNear (drawn_neighbours table (i + 1)) n
near_at table marks i n below are is = rw (← is) at (are i n below)

-- ---- places

no_site : (table : RawTable) (sites : List Bool) (y : ℕ) → sites ≡ map is_site table.atoms → not (site_mark sites y) ≡ true → IsTrue (is_site_at table y) → ⊥
no_site table sites y are passed site = true≢false (sym site ∙ sym (site_noted table sites y are) ∙ not-true (site_mark sites y) passed)

passes : (table : RawTable) (sites : List Bool) (y : ℕ) → sites ≡ map is_site table.atoms → (IsTrue (is_site_at table y) → ⊥) → not (site_mark sites y) ≡ true
passes table sites y are none = by_mark (site_mark sites y) refl
  where
    by_mark : (b : Bool) → site_mark sites y ≡ b → not (site_mark sites y) ≡ true
    by_mark true e = absurd (none (sym (site_noted table sites y are) ∙ e))
    by_mark false e = rw e refl

-- none of these is a site
abbrev NoSites : RawTable → List ℕ → Type 0
NoSites table neighbours = All (λ y. IsTrue (is_site_at table y) → ⊥) neighbours

-- what the test of a site's neighbours says
pub are_placed : (table : RawTable) (sites : List Bool) (neighbours : List ℕ) (n : Near) → sites ≡ map is_site table.atoms → IsNear neighbours n → are_apart sites n ≡ true → ArePlaced table neighbours
unfolding are_apart
are_placed table sites neighbours near.Nothing are is t = absurd (true≢false (sym t))
are_placed table sites neighbours (near.One y) are is t =
    rw is (record {
      some = omega arith;
      two = omega arith;
      apart = All-cons (λ z. IsTrue (is_site_at table z) → ⊥) y [] (no_site table sites y are t)
          (All-nil (λ z. IsTrue (is_site_at table z) → ⊥));
    })
are_placed table sites neighbours (near.Two y z) are is t =
    let both = and_parts (not (site_mark sites y)) (not (site_mark sites z)) t in
    rw is (record {
      some = omega arith;
      two = omega arith;
      apart =
          All-cons (λ w. IsTrue (is_site_at table w) → ⊥) y (z ∷ []) (no_site table sites y are both.0)
          (All-cons (λ w. IsTrue (is_site_at table w) → ⊥) z [] (no_site table sites z are both.1) (All-nil (λ w. IsTrue (is_site_at table w) → ⊥)));
    })
are_placed table sites neighbours near.More are is t = absurd (true≢false (sym t))

pub placed_apart : (table : RawTable) (sites : List Bool) (neighbours : List ℕ) (n : Near)
    → sites ≡ map is_site table.atoms → IsNear neighbours n → ArePlaced table neighbours → are_apart sites n ≡ true
unfolding are_apart
placed_apart table sites neighbours near.Nothing are is placed = absurd (let some : 1 ≤ length neighbours = placed.some in let none : length neighbours ≡ 0 = ap length is in omega (arith, some, none))
placed_apart table sites neighbours (near.One y) are is placed =
    let apart : NoSites table (y ∷ []) = rw is at placed.apart in
    passes table sites y are (All-head (λ w. IsTrue (is_site_at table w) → ⊥) y [] apart)
placed_apart table sites neighbours (near.Two y z) are is placed =
    let apart : NoSites table (y ∷ z ∷ []) = rw is at placed.apart in
    let rest = All-tail (λ w. IsTrue (is_site_at table w) → ⊥) y (z ∷ []) apart in
    and_from (not (site_mark sites y)) (not (site_mark sites z)) (passes table sites y are (All-head (λ w. IsTrue (is_site_at table w) → ⊥) y (z ∷ []) apart))
    (passes table sites z are (All-head (λ w. IsTrue (is_site_at table w) → ⊥) z [] rest))
placed_apart table sites neighbours near.More are is placed = absurd (omega (arith, is, placed.two))

-- what is demanded of an atom's place
abbrev pub HasPlace : RawTable → ℕ → RawAtom → Type 0
HasPlace table x atom = IsTrue (is_site atom) → ArePlaced table (drawn_neighbours table x)

-- an atom that passes the test, and one that doesn't
pub place_right : (table : RawTable) (sites : List Bool) (x : ℕ) (atom : RawAtom) (n : Near) (b : Bool) → sites ≡ map is_site table.atoms → IsNear (drawn_neighbours table x) n
    → b ≡ (not (is_site atom) || are_apart sites n) → b ≡ true → HasPlace table x atom
place_right table sites x atom n b are is tested passed site =
    are_placed table sites (drawn_neighbours table x) n are is (let t : (not (is_site atom) || are_apart sites n) ≡ true = sym tested ∙ passed in rw site at t)

pub place_wrong : (table : RawTable) (sites : List Bool) (x : ℕ) (atom : RawAtom) (n : Near) (b : Bool) → sites ≡ map is_site table.atoms → IsNear (drawn_neighbours table x) n
    → b ≡ (not (is_site atom) || are_apart sites n) → b ≡ false → HasPlace table x atom → ⊥
place_wrong table sites x atom n b are is tested failed has = by_site (is_site atom) refl
  where
    by_site : (s : Bool) → is_site atom ≡ s → ⊥
    by_site true e =
        let passed : are_apart sites n ≡ true = placed_apart table sites (drawn_neighbours table x) n are is (has e) in
        let t : b ≡ true = tested ∙ rw (e, passed) refl in
        true≢false (sym t ∙ failed)
    by_site false e = (let t : b ≡ true = tested ∙ rw e refl in true≢false (sym t ∙ failed))
