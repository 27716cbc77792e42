-- Keys, number by number.
--     code_of_valid           a valid code is a structural code
--     one_code                structural codes that begin the same numbers are one
--     read_one_way            numbers that begin with a structural code are an occurrence of that code alone
--     begins_no_occurrence    no occurrence begins another
--     begins_no_key           and no key does
use Rattle.std.proofs.Common.{◌≡◌, ◌+◌, ◌⊎◌, inl, inr, ℕ, List, [], ◌∷◌, ◌++◌, length, refl, sym, ap, ◌∙◌, subst, arith}
use Rattle.std.proofs.lemmas.List.{append-nil, append_assoc, append_cancel_left, length-append}
use Rattle.mk_model.specs.declared.graph.GraphAtom.{GraphAtom}
use Rattle.mk_model.specs.Codes.{Choice, IsCode}
use Rattle.mk_model.specs.Expansions.{IsExpansion, expansion}
use Rattle.mk_model.specs.Graphs.{GraphView}
use Rattle.mk_model.specs.Keys.{IsOccurrence, NoKeyBeginsAnother, OccurrencesAreReadOneWay}
use Rattle.mk_model.specs.Logic.{IsValid}
use Rattle.mk_model.specs.Molecules.{Molecule}
use Rattle.mk_model.specs.Queries.{QueryView}
use Rattle.mk_model.proofs.CodesLemmas.{law as codes_are_read_one_way}
use Rattle.mk_model.proofs.OpenSlotsLemmas.{law as no_code_begins_another}

-- ---- codes

pub code_of_valid : (query : QueryView) (code : List ℕ) → IsValid query code → IsCode query 0 code
code_of_valid query code is = record { choice = is.choice; made = is.made; spelt = is.spelt }

-- one of two lists that begin the same list begins the other
which_begins : (a b c d : List ℕ) → a ++ b ≡ c ++ d → ((more : List ℕ) × (c ≡ a ++ more)) ⊎ ((more : List ℕ) × (a ≡ c ++ more))
which_begins [] b c d e = inl (c, refl)
which_begins (x ∷ a) b [] d e = inr (x ∷ a, refl)
which_begins (x ∷ a) b (y ∷ c) d e =
    let first : x ≡ y = cc in
    let rest : a ++ b ≡ c ++ d = cc in
    elim (which_begins a b c d rest) [
      | inl longer ↦ inl (longer.0, ap (λ (z : ℕ). z ∷ c) (sym first) ∙ ap (λ (zs : List ℕ). x ∷ zs) longer.1)
      | inr longer ↦ inr (longer.0, ap (λ (zs : List ℕ). x ∷ zs) longer.1 ∙ ap (λ (z : ℕ). z ∷ (c ++ longer.0)) first)
    ]

-- a structural code that begins like another is that one
code_that_begins : (query : QueryView) (code other more : List ℕ) → IsCode query 0 code → IsCode query 0 other → other ≡ code ++ more → other ≡ code
code_that_begins query code other more is its e =
    let none : more ≡ [] = no_code_begins_another query 0 code more is (subst (IsCode query 0) e its) in
    e ∙ ap (λ (zs : List ℕ). code ++ zs) none ∙ append-nil code

-- structural codes that begin the same numbers are one
pub one_code : (query : QueryView) (code behind other rest : List ℕ) → IsCode query 0 code → IsCode query 0 other → code ++ behind ≡ other ++ rest → other ≡ code
one_code query code behind other rest is its e =
    elim (which_begins code behind other rest e) [
      | inl longer ↦ code_that_begins query code other longer.0 is its longer.1
      | inr longer ↦ sym (code_that_begins query other code longer.0 its is longer.1)
    ]

-- what stands behind the same list in the same numbers is the same
same_behind : (a b c d : List ℕ) → c ≡ a → a ++ b ≡ c ++ d → d ≡ b
same_behind a b c d same e = append_cancel_left a d b (ap (λ (zs : List ℕ). zs ++ d) (sym same) ∙ sym e)

pub read_one_way : OccurrencesAreReadOneWay
read_one_way query mol code behind is occurs =
    let same : occurs.code ≡ code = one_code query code behind occurs.code occurs.hit is (code_of_valid query occurs.code occurs.valid) occurs.whole in
    (same, same_behind code behind occurs.code occurs.hit same occurs.whole)

-- ---- how long

-- expansions by one code have the same atoms
same_atoms : (query : QueryView) (code other : List ℕ) (graph second : GraphView) → IsExpansion query code graph → IsExpansion query other second → code ≡ other → graph.atoms ≡ second.atoms
same_atoms query code other graph second a b e =
    let one : IsCode query 0 other = record { choice = a.choice; made = a.made; spelt = a.spelt ∙ e } in
    let two : IsCode query 0 other = record { choice = b.choice; made = b.made; spelt = b.spelt } in
    let same : a.choice ≡ b.choice = codes_are_read_one_way query 0 other one two in
    a.atoms ∙ ap (λ (c : Choice). (expansion query 0 c).atoms) same ∙ sym b.atoms

-- what makes a list no longer is nothing
nothing_more : (xs ys more : List ℕ) → ys ≡ xs ++ more → length ys ≡ length xs → more ≡ []
nothing_more xs ys [] e same = refl
nothing_more xs ys (z ∷ more) e same =
    let longer : length ys ≡ length xs + length (z ∷ more) = ap length e ∙ length-append xs (z ∷ more) in
    absurd (omega (arith, longer, same))

pub begins_no_occurrence : (query : QueryView) (mol other : Molecule) (xs more : List ℕ) → IsOccurrence query mol xs → IsOccurrence query other (xs ++ more) → more ≡ []
begins_no_occurrence query mol other xs more o p =
    let whole : o.code ++ (o.hit ++ more) ≡ p.code ++ p.hit =
    sym (append_assoc o.code o.hit more) ∙ ap (λ (zs : List ℕ). zs ++ more) (sym o.whole) ∙ p.whole in
    let same : p.code ≡ o.code = one_code query o.code (o.hit ++ more) p.code p.hit (code_of_valid query o.code o.valid) (code_of_valid query p.code p.valid) whole in
    let behind : p.hit ≡ o.hit ++ more = same_behind o.code (o.hit ++ more) p.code p.hit same whole in
    let atoms : p.graph.atoms ≡ o.graph.atoms = same_atoms query p.code o.code p.graph o.graph p.expanded o.expanded same in
    nothing_more o.hit p.hit more behind (p.hits.one_each ∙ ap (λ (atoms : List GraphAtom). length atoms) atoms ∙ sym o.hits.one_each)

pub begins_no_key : NoKeyBeginsAnother
begins_no_key molecules query key more k l =
    let whole : k.number ∷ (k.numbers ++ more) ≡ l.number ∷ l.numbers = ap (λ (zs : List ℕ). zs ++ more) (sym k.whole) ∙ l.whole in
    let behind : l.numbers ≡ k.numbers ++ more = cc in
    begins_no_occurrence query k.mol l.mol k.numbers more k.occurs (subst (IsOccurrence query l.mol) behind l.occurs)
