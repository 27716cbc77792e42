-- The atoms that the slots of a template take, and what the template adds to a size by itself.
--     marked_more       one atom more
--     link_takes        the block of a link is what it takes
--     taken_more        one slot more
--     links_more        what it adds where it is a link
--     own_is            where all slots are marked, what is left is fixed
use Rattle.std.proofs.Common.{◌≡◌, ℕ, zero, suc, ◌+◌, ◌-◌, ◌*◌, ◌<◌, ◌≤◌, ◌||◌, Bool, true, false, not, ⊎_elim, cond, List, [], ◌∷◌, ◌++◌, refl, sym, ap, ◌∙◌, arith, length, get_or, take, sum_by}
use Rattle.std.specs.Prelude.{◌==◌, count_by}
use Rattle.std.specs.List.{list_any, range_with_len}
use native.Mathlib.Numerals.{unary_clauses}
use Rattle.std.proofs.lemmas.Bool.{cases_lt}
use Rattle.std.proofs.lemmas.Bool.Decides.{nat_tests}
use Rattle.std.proofs.lemmas.List.{take_all, take_more}
use Rattle.std.proofs.lemmas.List.Folds.{list_any_more}
use Rattle.std.proofs.lemmas.List.FromFn.{length-range_with_len}
use Rattle.std.proofs.lemmas.List.Sums.{sum_by-cons, sum_by_push}
use Rattle.mk_model.specs.declared.template.QueryBond.{QueryBond}
use Rattle.mk_model.specs.declared.template.Slot.{Slot}
use Rattle.mk_model.specs.declared.template.Slot.TheVariants.{Link, Site}
use Rattle.mk_model.specs.Sizes.{atom_numbers, is_fixed, takes_atom}
use Rattle.mk_model.specs.Templates.{TemplateView, hang_together, is_in_block}
use Rattle.mk_model.proofs.ForCallers.{hangs_same, hangs_tested}
use Rattle.mk_query.specs.BlockSearch.{IsBlock, others}
use Rattle.mk_query.specs.OwnSizes.{Marks, is_taken, link_size_by, marked, takes}
use Rattle.mk_query.specs.RootSizes.{capped, link_size, own_size}

-- ---- counts

range_more : (a n : ℕ) → range_with_len a (suc n) ≡ range_with_len a n ++ (a + n) ∷ []
range_more a zero = (let sum : a ≡ a + 0 = omega arith in ap (λ (m : ℕ). m ∷ []) sum)
range_more a (suc n) = (let sum : a + 1 + n ≡ a + suc n = omega arith in ap (λ (l : List ℕ). a ∷ l) (range_more (a + 1) n ∙ ap (λ (m : ℕ). range_with_len (a + 1) n ++ m ∷ []) sum))

count_push : (p : ℕ → Bool) (xs : List ℕ) (x : ℕ) → count_by p (xs ++ x ∷ []) ≡ count_by p xs + cond (p x) 1 0
count_push p xs x = sum_by_push (λ y. cond (p y) 1 0) xs x

pub marked_more : (marks : List Bool) (i : ℕ) → marked marks (i + 1) ≡ marked marks i + cond (get_or marks (i + 1) false) 1 0
marked_more marks i =
    let p : ℕ → Bool = λ x. get_or marks x false in
    let number : i + 1 ≡ suc i = omega arith in
    let last : 1 + i ≡ i + 1 = omega arith in
    ap (λ (n : ℕ). count_by p (range_with_len 1 n)) number ∙ ap (count_by p) (range_more 1 i ∙ ap (λ (m : ℕ). range_with_len 1 i ++ m ∷ []) last) ∙ count_push p (range_with_len 1 i) (i + 1)

-- counts of what is the same for each
count_same : (p q : ℕ → Bool) (n : ℕ) → ((x : ℕ) → 1 ≤ x → x ≤ n → p x ≡ q x) → count_by p (range_with_len 1 n) ≡ count_by q (range_with_len 1 n)
count_same p q zero same = refl
count_same p q (suc n) same =
    let others = count_same p q n (λ x some few. same x some (omega (arith, few))) in
    let here : p (1 + n) ≡ q (1 + n) = same (1 + n) (omega arith) (omega arith) in
    ap (count_by p) (range_more 1 n) ∙ count_push p (range_with_len 1 n) (1 + n) ∙ rw (others, here) refl ∙ sym (ap (count_by q) (range_more 1 n) ∙ count_push q (range_with_len 1 n) (1 + n))

-- those that pass and those that don't
count_not : (p : ℕ → Bool) (xs : List ℕ) → count_by p xs + count_by (λ x. not (p x)) xs ≡ length xs
count_not p [] = refl
count_not p (x ∷ xs) =
    let others = count_not p xs in
    let here : cond (p x) 1 0 + cond (not (p x)) 1 0 ≡ 1 = by_test (p x) in
    omega (arith, others, here, sum_by-cons (λ y. cond (p y) 1 0) x xs, sum_by-cons (λ y. cond (not (p y)) 1 0) x xs)
  where
    by_test : (b : Bool) → cond b 1 0 + cond (not b) 1 0 ≡ 1
    by_test true = omega arith
    by_test false = omega arith

-- ---- what a slot takes

takes_same : (template : TemplateView) (slot : Slot) (x : ℕ) → takes template.bonds slot x ≡ takes_atom template x slot
takes_same template (Link atom most from to) x = refl
takes_same template (Site atom group first second) x = refl

same_number : (n m : ℕ) → (n == m) ≡ true → n ≡ m
same_number n m e = grind (arith, nat_tests)

-- the link itself is in its block
takes_block : (bonds : List QueryBond) (atom most from to x : ℕ) → takes bonds (Link atom most from to) x ≡ hang_together (others (record { atom = atom; from = from; to = to }) bonds) atom x
takes_block bonds atom most from to x = by_test (atom == x) refl
  where
    by_test : (b : Bool) → (atom == x) ≡ b
        → (b || hang_together (others (record { atom = atom; from = from; to = to }) bonds) atom x) ≡ hang_together (others (record { atom = atom; from = from; to = to }) bonds) atom x
    by_test false e = refl
    by_test true e =
        let same : atom ≡ x = same_number atom x e in
        sym (rw same (hangs_tested (others (record { atom = x; from = from; to = to }) bonds) x x (hangs_same (others (record { atom = x; from = from; to = to }) bonds) x)))

pub link_takes : (bonds : List QueryBond) (atom most from to n : ℕ) (block : List Bool) → length block ≡ n + 1 → IsBlock bonds (record { atom = atom; from = from; to = to }) block
    → Marks n (takes bonds (Link atom most from to)) block
link_takes bonds atom most from to n block size is = record { size = size; each = λ x some few. is x ∙ sym (takes_block bonds atom most from to x) }

-- ---- one slot more

pub taken_more : (template : TemplateView) (i n : ℕ) (d : Slot) (old by new : List Bool) → i < length template.slots → length new ≡ length old
    → ((x : ℕ) → get_or new x false ≡ (get_or old x false || get_or by x false)) → Marks n (takes template.bonds (get_or template.slots i d)) by
    → Marks n (is_taken template i) old → Marks n (is_taken template (i + 1)) new
taken_more template i n d old by new below size each here before = record {
  size = size ∙ before.size;
  each = λ x some few.
      each x ∙ rw (before.each x some few, here.each x some few, takes_same template (get_or template.slots i d) x) (sym (list_any_more (takes_atom template x) template.slots i d below));
}

-- what it adds where it is a link
link_same : (template : TemplateView) (slot : Slot) (by : List Bool) → Marks (length template.atoms) (takes template.bonds slot) by
    → link_size_by by (length template.atoms) slot ≡ link_size template slot
link_same template (Link atom most from to) by marks =
    ap (λ (n : ℕ). 1 + most * n)
    (count_same (λ x. get_or by x false) (is_in_block template (Link atom most from to)) (length template.atoms) (λ x some few. marks.each x some few ∙ takes_block template.bonds atom most from to x))
link_same template (Site atom group first second) by marks = refl

cap_sum : (a b m n : ℕ) → a ≡ capped b → capped m ≡ capped n → capped (a + m) ≡ capped (b + n)
cap_sum a b m n first second = omega (arith, first, second)

pub links_more : (template : TemplateView) (i : ℕ) (d : Slot) (by : List Bool) (links added : ℕ)
    → i < length template.slots → Marks (length template.atoms) (takes template.bonds (get_or template.slots i d)) by
    → capped added ≡ capped (link_size_by by (length template.atoms) (get_or template.slots i d))
    → links ≡ capped (sum_by (link_size template) (take i template.slots)) → capped (links + added) ≡ capped (sum_by (link_size template) (take (i + 1) template.slots))
links_more template i d by links added below marks size before =
    cap_sum links (sum_by (link_size template) (take i template.slots)) added
    (link_size template (get_or template.slots i d)) before
    (size ∙ ap capped (link_same template (get_or template.slots i d) by marks))
    ∙ ap capped (sym (ap (sum_by (link_size template)) (take_more template.slots i d below) ∙ sum_by_push (link_size template) (take i template.slots) (get_or template.slots i d)))

-- ---- all slots

pub own_is : (template : TemplateView) (i : ℕ) (taken : List Bool) (links number : ℕ) → length template.slots ≤ i → Marks (length template.atoms) (is_taken template i) taken
    → links ≡ capped (sum_by (link_size template) (take i template.slots)) → number ≡ marked taken (length template.atoms)
    → capped (length template.atoms - number + links) ≡ capped (own_size template)
own_is template i taken links number all marks links_are is =
    let n = length template.atoms in
    let slots = take_all i template.slots all in
    let taken_is : marked taken n ≡ count_by (λ x. list_any (takes_atom template x) template.slots) (range_with_len 1 n) =
    count_same (λ x. get_or taken x false) (λ x. list_any (takes_atom template x) template.slots) n (λ x some few. marks.each x some few ∙ ap (list_any (takes_atom template x)) slots) in
    let both = count_not (λ x. list_any (takes_atom template x) template.slots) (range_with_len 1 n) in
    let sum : links ≡ capped (sum_by (link_size template) template.slots) = links_are ∙ ap (λ (l : List Slot). capped (sum_by (link_size template) l)) slots in
    cap_rest n number (marked taken n) (count_by (λ x. list_any (takes_atom template x) template.slots) (range_with_len 1 n)) (count_by (is_fixed template) (atom_numbers template)) links
    (sum_by (link_size template) template.slots) is taken_is (both ∙ length-range_with_len 1 n) sum
  where
    cap_rest : (n number m taken fixed links sum : ℕ) → number ≡ m → m ≡ taken → taken + fixed ≡ n → links ≡ capped sum → capped (n - number + links) ≡ capped (fixed + sum)
    cap_rest n number m taken fixed links sum first second both is = omega (arith, first, second, both, is)

-- ---- one link

times_suc : (m b : ℕ) → m * suc b ≡ m * b + m
times_suc m b = simp unary_clauses (omega arith)

pub cap_times : (most block : ℕ) → capped (1 + capped most * block) ≡ capped (1 + most * block)
cap_times most zero = simp unary_clauses refl
cap_times most (suc block) =
    ⊎_elim
    (λ small. let same : capped most ≡ most = omega (arith, small) in rw same refl)
    (λ large.
    let same : capped most ≡ 513 = omega (arith, large) in
    omega (arith, same, large, times_suc (capped most) block, times_suc most block))
    (cases_lt most 513)

pub few_if : (b : Bool) → cond b 1 0 ≤ 1
few_if true = omega arith
few_if false = omega arith
