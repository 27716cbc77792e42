-- The table of a query.
--     one_least, one_members      at most one least code, and one list of its members
--     key_of_hit, hit_of_key      a code that has a hit, and the key that it begins
--     least_code, none_below      what the least key from a place on says of its record and of lower ones
--     one_row, one_table          a record has one row, and a query one table
--     table_over, begins_over     the same molecules held otherwise
use Rattle.std.proofs.Common.{◌≡◌, ℕ, ◌<◌, ◌≤◌, inl, inr, List, [], ◌∷◌, ◌++◌, map, refl, sym, ap, ◌∙◌, subst, append-nil}
use Rattle.mk_text.specs.Rising.{IsBelow, IsLeast}
use Rattle.mk_text.proofs.ForCallers.{below_joined, below_or_not, between_none, each_from, not_below_after, not_below_itself, one_of_all}
use Rattle.mk_model.specs.Codes.{IsCode}
use Rattle.mk_model.specs.Keys.{IsKey}
use Rattle.mk_model.specs.Molecules.{Molecule}
use Rattle.mk_model.specs.Queries.{QueryView}
use Rattle.mk_model.proofs.CodesLemmas.{law as codes_are_read_one_way}
use Rattle.mk_model.proofs.ForCallers.{code_of_valid, one_code}
use Rattle.mk_rtable.specs.declared.rows.TableRow.{TableRow}
use Rattle.mk_rtable.specs.Begins.{BeginsOfTable, IsPairToLeast}
use Rattle.mk_rtable.specs.Members.{AreMembers, chosen_members}
use Rattle.mk_rtable.specs.Table.{HasHit, IsLeastCode, IsRow, IsRGroupTable, numbers_of_row}

-- ---- one of each

-- two lists of which neither is below the other are one
pub neither_below : (xs ys : List ℕ) → (IsBelow xs ys → ⊥) → (IsBelow ys xs → ⊥) → xs ≡ ys
neither_below xs ys not other =
    elim (below_or_not ys (xs ++ 0 ∷ [])) [
      | inl below ↦ between_none xs ys other below
      | inr up ↦ absurd (not (not_below_after xs ys up))
    ]

pub one_least : (query : QueryView) (mol : Molecule) (code other : List ℕ) → IsLeastCode query mol code → IsLeastCode query mol other → code ≡ other
one_least query mol code other is its = neither_below code other (its.least code is.has is.from) (is.least other its.has its.from)

pub one_members : (query : QueryView) (code other members others : List ℕ) → code ≡ other → AreMembers query code members → AreMembers query other others → members ≡ others
one_members query code other members others same is its =
    let of : IsCode query 0 code = record { choice = its.of.choice; made = its.of.made; spelt = its.of.spelt ∙ sym same } in
    is.are ∙ ap chosen_members (codes_are_read_one_way query 0 code is.of of) ∙ sym its.are

-- what a row is made of, where it has one molecule for each number
pub one_row : (Held : ℕ → Molecule → Type 0) (query : QueryView) → ((n : ℕ) (mol other : Molecule) → Held n mol → Held n other → mol ≡ other)
    → (row other : List ℕ) (is : IsRow Held query row) (its : IsRow Held query other) → is.number ≡ its.number → row ≡ other
one_row Held query alone row other is its same =
    let mol : is.mol ≡ its.mol = alone is.number is.mol its.mol is.held (subst (λ (n : ℕ). Held n its.mol) (sym same) its.held) in
    let code : is.code ≡ its.code = one_least query its.mol is.code its.code (subst (λ (m : Molecule). IsLeastCode query m is.code) mol is.least) its.least in
    let members : is.members ≡ its.members = one_members query is.code its.code is.members its.members code is.are_members its.are_members in
    is.whole ∙ ap (λ (n : ℕ). n ∷ is.members) same ∙ ap (λ (zs : List ℕ). its.number ∷ zs) members ∙ sym its.whole

same_row : (row other : TableRow) → row.number ≡ other.number → row.members ≡ other.members → row ≡ other
same_row row other number members =
    ap (λ (n : ℕ). record { number = n; members = row.members }) number ∙ ap (λ (zs : List ℕ). record { number = other.number; members = zs }) members

-- rows that are the same lists are the same
same_rows : (rows others : List TableRow) → map numbers_of_row rows ≡ map numbers_of_row others → rows ≡ others
same_rows [] [] e = refl
same_rows [] (other ∷ others) e = absurd cc
same_rows (row ∷ rows) [] e = absurd cc
same_rows (row ∷ rows) (other ∷ others) e =
    let first : row.number ∷ row.members ≡ other.number ∷ other.members = cc in
    let number : row.number ≡ other.number = cc in
    let members : row.members ≡ other.members = cc in
    let rest : map numbers_of_row rows ≡ map numbers_of_row others = cc in
    let same : row ≡ other = same_row row other number members in
    ap (λ (r : TableRow). r ∷ rows) same ∙ ap (λ (rs : List TableRow). other ∷ rs) (same_rows rows others rest)

pub one_table : (Held : ℕ → Molecule → Type 0) (query : QueryView) (rows others : List TableRow) → IsRGroupTable Held query rows → IsRGroupTable Held query others → rows ≡ others
one_table Held query rows others is its = same_rows rows others (one_of_all (IsRow Held query) (map numbers_of_row rows) (map numbers_of_row others) is its)

-- ---- keys

module _ (Held : ℕ → Molecule → Type 0) (query : QueryView) where
  unfoldable pub key_of_hit : (n : ℕ) (mol : Molecule) (code : List ℕ) → Held n mol → (h : HasHit query mol code) → IsKey Held query (n ∷ (code ++ h.hit))
  key_of_hit n mol code held h = record {
    number = n;
    mol = mol;
    numbers = code ++ h.hit;
    held = held;
    occurs = record { code = code; hit = h.hit; graph = h.graph; valid = h.valid; expanded = h.expanded; hits = h.hits; whole = refl };
    whole = refl;
  }

  pub hit_of_key : (key : List ℕ) (k : IsKey Held query key) → HasHit query k.mol k.occurs.code
  hit_of_key key k = record { graph = k.occurs.graph; hit = k.occurs.hit; valid = k.occurs.valid; expanded = k.occurs.expanded; hits = k.occurs.hits }

  -- the least key from a place on, which leaves the records from a number on
  module _ (place : List ℕ) (next : ℕ) (cut : (n : ℕ) (numbers : List ℕ) → next ≤ n → IsBelow (n ∷ numbers) place → ⊥)
      (key : List ℕ) (least : IsLeast place (IsKey Held query) key) where
    -- the key in its three parts
    pub in_parts : key ≡ least.has.number ∷ (least.has.occurs.code ++ least.has.occurs.hit)
    in_parts = least.has.whole ∙ ap (λ (zs : List ℕ). least.has.number ∷ zs) least.has.occurs.whole

    -- no record below that of the key has a hit
    pub none_below : (n : ℕ) (mol : Molecule) (code : List ℕ) → next ≤ n → n < least.has.number → Held n mol → HasHit query mol code → ⊥
    none_below n mol code up under held h =
        least.least (n ∷ (code ++ h.hit)) (key_of_hit n mol code held h) (cut n (code ++ h.hit) up)
        (subst (λ (zs : List ℕ). IsBelow (n ∷ (code ++ h.hit)) zs) (sym in_parts) (inl under))

    -- and in that record the code of the key is the least
    pub least_code : next ≤ least.has.number → IsLeastCode query least.has.mol least.has.occurs.code
    least_code up = record {
      has = hit_of_key key least.has;
      from = λ below. below;
      least = λ other h _ below. least.least (least.has.number ∷ (other ++ h.hit)) (key_of_hit least.has.number least.has.mol other least.has.held h)
          (cut least.has.number (other ++ h.hit) up)
          (subst (λ (zs : List ℕ). IsBelow (least.has.number ∷ (other ++ h.hit)) zs) (sym in_parts)
          (inr (refl, below_joined other least.has.occurs.code h.hit least.has.occurs.hit below (begins_none other h below))));
    }
      where
        -- a code below it begins it not
        begins_none : (other : List ℕ) → HasHit query least.has.mol other → IsBelow other least.has.occurs.code → (more : List ℕ) → least.has.occurs.code ≡ other ++ more → ⊥
        begins_none other h below more e =
            let same : other ≡ least.has.occurs.code =
            one_code query least.has.occurs.code [] other more (code_of_valid query least.has.occurs.code least.has.occurs.valid) (code_of_valid query other h.valid)
            (append-nil least.has.occurs.code ∙ e) in
            not_below_itself other (subst (λ (zs : List ℕ). IsBelow other zs) (sym same) below)

-- ---- over other molecules

-- the same molecules held otherwise have the same rows
pub row_over : (Held Other : ℕ → Molecule → Type 0) (query : QueryView) (row : List ℕ) → ((n : ℕ) (mol : Molecule) → Held n mol → Other n mol) → IsRow Held query row → IsRow Other query row
row_over Held Other query row to is = record {
  number = is.number;
  mol = is.mol;
  code = is.code;
  members = is.members;
  held = to is.number is.mol is.held;
  least = is.least;
  are_members = is.are_members;
  whole = is.whole;
}

pub table_over : (Held Other : ℕ → Molecule → Type 0) (query : QueryView) (rows : List TableRow) → ((n : ℕ) (mol : Molecule) → Held n mol → Other n mol)
    → ((n : ℕ) (mol : Molecule) → Other n mol → Held n mol)
    → IsRGroupTable Held query rows → IsRGroupTable Other query rows
table_over Held Other query rows to back is = record {
  rises = is.rises;
  each = λ xs held. row_over Held Other query xs to (is.each xs held);
  all = λ xs row. is.all xs (row_over Other Held query xs back row);
}

pub begins_over : (Held Other : ℕ → Molecule → Type 0) (query : QueryView) (old new : ℕ) → ((n : ℕ) (mol : Molecule) → Held n mol → Other n mol)
    → ((n : ℕ) (mol : Molecule) → Other n mol → Held n mol)
    → BeginsOfTable Held query old new → BeginsOfTable Other query old new
begins_over Held Other query old new to back b = record {
  pairs = b.pairs;
  rises = b.rises;
  each = each_from (IsPairToLeast Held query) (IsPairToLeast Other query) b.pairs (λ xs is. record {
    number = is.number;
    mol = is.mol;
    screen = is.screen;
    code = is.code;
    held = to is.number is.mol is.held;
    shows = is.shows;
    covered = is.covered;
    up_to = is.up_to;
    whole = is.whole;
  }) b.each;
  ticks = b.ticks;
  rows = λ n mol code held least. b.rows n mol code (back n mol held) least;
}
