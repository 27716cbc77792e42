use Rattle.std.proofs.Common.{◌≡◌, ◌||◌, ◌∷◌, ◌++◌, [], ◌∙◌, ℕ, List, Bool, false, eqb, length, refl, sym}
use Rattle.std.specs.List.{list_any}
use Rattle.std.proofs.lemmas.Nat.Bits.{bit_at-zero}
use Rattle.mk_screen.specs.Paths.{Adds, bits_of_atoms, bits_of_bonds}
use Rattle.mk_model.specs.Screens.{has_bit}
use Rattle.mk_screen.proofs.AddsLemmas.{adds_join, set_nowhere}
use Rattle.mk_screen.proofs.PathsLemmas.{are_bits}
use Rattle.mk_screen.proofs.paths.bits_of.Goals as goal

pub returns : goal.returns
returns g c b below =
    let shown = g.D.Drawn.shown c.args.drawn.now in
    let all = bits_of_atoms shown (length shown.elements) ++ bits_of_bonds shown (length shown.bonds) in
    let zeros : List ℕ = 0 ∷ 0 ∷ 0 ∷ 0 ∷ 0 ∷ 0 ∷ 0 ∷ 0 ∷ [] in
    let put : Adds all zeros c.put_bonds.new.bits = adds_join (bits_of_atoms shown (length shown.elements))
    (bits_of_bonds shown (length shown.bonds)) zeros c.put_atoms.new.bits c.put_bonds.new.bits
    c.put_atoms.ensures.put c.put_bonds.ensures.put in
    let is : has_bit c.put_bonds.new.bits b ≡ list_any (λ d. eqb d b) all = set_nowhere all c.put_bonds.new.bits put b below in
    let bits = are_bits shown b in (
      (λ set. bits.0 (sym is ∙ set)),
      (λ some. is ∙ bits.1 some),
    )
