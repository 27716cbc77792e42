-- Where each template has a rank above those that its sites put in, none uses itself and there is just one sizing.
--     none_in_itself      no template uses itself
--     sizing_of           the sizes of the templates
--     one_sizing          and there are no others
use Rattle.std.proofs.Common.{◌≡◌, ℕ, zero, suc, ◌+◌, ◌<◌, ◌≤◌, max, List, [], ◌∷◌, Option, Some, None, refl, sym, ap, ◌∙◌, arith, sum_by}
use Rattle.std.specs.Prelude.{Contains, count_by, slice_get}
use Rattle.std.proofs.lemmas.List.Sums.{sum_by-cons}
use Rattle.mk_model.specs.declared.template.Slot.{Slot}
use Rattle.mk_model.specs.declared.template.Slot.TheVariants.{Link, Site}
use Rattle.mk_model.specs.Templates.{TemplateView, neighbour_count}
use Rattle.mk_model.specs.Queries.{QueryView}
use Rattle.mk_model.specs.Labels.{IsChain, PutsIn, members_at}
use Rattle.mk_model.specs.Sizes.{IsSizing, atom_numbers, greatest, is_fixed, size_by, size_of_slot}
use Rattle.mk_model.specs.SizesWithin.{size_if, size_within}

-- a template's rank is above that of each template that a site of it may be filled by
abbrev pub IsRanked : QueryView → (ℕ → ℕ) → Type 0
IsRanked query rank = (t u : ℕ) → PutsIn query t u → rank u < rank t

-- ---- chains

chain_falls : (query : QueryView) (rank : ℕ → ℕ) → IsRanked query rank → (t : ℕ) (via : List ℕ) (u : ℕ) → IsChain query t via u → rank u < rank t
chain_falls query rank ranked t [] u chain = ranked t u chain
chain_falls query rank ranked t (v ∷ via) u chain = omega (arith, ranked t v chain.0, chain_falls query rank ranked v via u chain.1)

pub none_in_itself : (query : QueryView) (rank : ℕ → ℕ) → IsRanked query rank → (t : ℕ) (via : List ℕ) → IsChain query t via t → ⊥
none_in_itself query rank ranked t via chain = omega (arith, chain_falls query rank ranked t via t chain)

-- ---- sizes that agree

-- the greatest of sizes that agree
greatest_same : (size other : ℕ → ℕ) (ts : List ℕ) → ((t : ℕ) → Contains ts t → size t ≡ other t) → greatest size ts ≡ greatest other ts
greatest_same size other [] same = refl
greatest_same size other (t ∷ ts) same =
    let here : size t ≡ other t = same t (0, omega arith, refl) in
    let there : greatest size ts ≡ greatest other ts = greatest_same size other ts (λ u at. same u (suc at.0, (let below = at.1 in omega arith), at.2)) in
    rw (here, there) refl

-- the size of a slot, by sizes that agree on what fills it
slot_same : (query : QueryView) (size other : ℕ → ℕ) (template : TemplateView) (slot : Slot) → ((u : ℕ) → Contains (members_at query slot) u → size u ≡ other u)
    → size_of_slot query size template slot ≡ size_of_slot query other template slot
slot_same query size other template (Link atom most from to) same = refl
slot_same query size other template (Site atom groups first second) same =
    ap (λ (n : ℕ). 1 + max n (neighbour_count (Site atom groups first second))) (greatest_same size other (members_at query (Site atom groups first second)) same)

-- sums that agree one by one
sums_same : (f g : Slot → ℕ) (slots : List Slot) → ((slot : Slot) → Contains slots slot → f slot ≡ g slot) → sum_by f slots ≡ sum_by g slots
sums_same f g [] same = refl
sums_same f g (slot ∷ slots) same =
    let here : f slot ≡ g slot = same slot (0, omega arith, refl) in
    let there : sum_by f slots ≡ sum_by g slots = sums_same f g slots (λ s at. same s (suc at.0, (let below = at.1 in omega arith), at.2)) in
    omega (arith, sum_by-cons f slot slots, sum_by-cons g slot slots)

-- the size of a template, by sizes that agree on what it puts in
pub size_same : (query : QueryView) (size other : ℕ → ℕ) (t : ℕ) (template : TemplateView) → slice_get query.templates t ≡ Some template → ((u : ℕ) → PutsIn query t u → size u ≡ other u)
    → size_by query size template ≡ size_by query other template
size_same query size other t template at same =
    ap (λ (n : ℕ). count_by (is_fixed template) (atom_numbers template) + n)
    (sums_same (size_of_slot query size template) (size_of_slot query other template) template.slots
    (λ slot within. slot_same query size other template slot (λ u fills. same u (record { slot = slot; at = rw at within; fills = fills }))))

-- ---- the sizing

-- sizes that agree on what a template puts in, where there is one
if_same : (query : QueryView) (size other : ℕ → ℕ) (t : ℕ) → ((u : ℕ) → PutsIn query t u → size u ≡ other u)
    → size_if query size (slice_get query.templates t) ≡ size_if query other (slice_get query.templates t)
if_same query size other t same = by_template (slice_get query.templates t) refl
  where
    by_template : (o : Option TemplateView) → slice_get query.templates t ≡ o → size_if query size (slice_get query.templates t) ≡ size_if query other (slice_get query.templates t)
    by_template None e = rw e refl
    by_template (Some template) e = rw e (size_same query size other t template e same)

-- more room changes nothing
pub within_same : (query : QueryView) (rank : ℕ → ℕ) → IsRanked query rank → (n m t : ℕ) → rank t < n → rank t < m → size_within n query t ≡ size_within m query t
within_same query rank ranked zero m t below below' = absurd (omega (arith, below))
within_same query rank ranked (suc n) zero t below below' = absurd (omega (arith, below'))
within_same query rank ranked (suc n) (suc m) t below below' =
    if_same query (size_within n query) (size_within m query) t (λ u puts. within_same query rank ranked n m u (omega (arith, ranked t u puts)) (omega (arith, ranked t u puts)))

-- the size of each template
abbrev pub size_by_rank : QueryView → (ℕ → ℕ) → ℕ → ℕ
size_by_rank query rank t = size_within (suc (rank t)) query t

pub sizing_of : (query : QueryView) (rank : ℕ → ℕ) → IsRanked query rank → IsSizing query (size_by_rank query rank)
sizing_of query rank ranked t template at =
    rw at (size_same query (size_within (rank t) query) (size_by_rank query rank) t template at
    (λ u puts. within_same query rank ranked (rank t) (suc (rank u)) u (ranked t u puts) (omega arith)))

-- there is no other: two sizings agree on the templates
pub one_sizing : (query : QueryView) (rank : ℕ → ℕ) → IsRanked query rank → (size other : ℕ → ℕ) → IsSizing query size → IsSizing query other
    → ((u : ℕ) → slice_get query.templates u ≡ None → size u ≡ other u) → (n t : ℕ) → rank t < n → size t ≡ other t
one_sizing query rank ranked size other is is' past zero t below = absurd (omega (arith, below))
one_sizing query rank ranked size other is is' past (suc n) t below =
    by_template query size other is is' past t (λ u puts. one_sizing query rank ranked size other is is' past n u (omega (arith, ranked t u puts))) (slice_get query.templates t) refl
  where
    by_template : (query : QueryView) (size other : ℕ → ℕ) → IsSizing query size → IsSizing query other → ((u : ℕ) → slice_get query.templates u ≡ None → size u ≡ other u)
        → (t : ℕ) → ((u : ℕ) → PutsIn query t u → size u ≡ other u) → (o : Option TemplateView) → slice_get query.templates t ≡ o → size t ≡ other t
    by_template query size other is is' past t same None e = past t e
    by_template query size other is is' past t same (Some template) e = is t template e ∙ size_same query size other t template e same ∙ sym (is' t template e)

-- ---- a sizing is a ranking

-- each slot's size is above the greatest of what fills it
pub greatest_contains : (size : ℕ → ℕ) (ts : List ℕ) (t : ℕ) → Contains ts t → size t ≤ greatest size ts
greatest_contains size [] t (k, below, is) = absurd (omega (arith, below))
greatest_contains size (x ∷ ts) t (zero, below, is) = (let same : x ≡ t = is in omega (arith, ap size same))
greatest_contains size (x ∷ ts) t (suc k, below, is) = omega (arith, greatest_contains size ts t (k, omega (arith, below), is))

one_of_sum : (f : Slot → ℕ) (slots : List Slot) (slot : Slot) → Contains slots slot → f slot ≤ sum_by f slots
one_of_sum f [] slot (k, below, is) = absurd (omega (arith, below))
one_of_sum f (x ∷ slots) slot (zero, below, is) = (let same : x ≡ slot = is in omega (arith, ap f same, sum_by-cons f x slots))
one_of_sum f (x ∷ slots) slot (suc k, below, is) = omega (arith, one_of_sum f slots slot (k, omega (arith, below), is), sum_by-cons f x slots)

slot_above : (query : QueryView) (size : ℕ → ℕ) (template : TemplateView) (slot : Slot) (u : ℕ) → Contains (members_at query slot) u → size u < size_of_slot query size template slot
slot_above query size template (Link atom most from to) u fills = absurd (let below = fills.1 in omega arith)
slot_above query size template (Site atom groups first second) u fills = omega (arith, greatest_contains size (members_at query (Site atom groups first second)) u fills)

-- so what a query keeps of sizes says too that no template uses itself
pub ranked_by_size : (query : QueryView) (size : ℕ → ℕ) → IsSizing query size → IsRanked query size
ranked_by_size query size is t u puts = by_template (slice_get query.templates t) refl
  where
    by_template : (o : Option TemplateView) → slice_get query.templates t ≡ o → size u < size t
    by_template None e = absurd (let at : Contains [] puts.slot = rw e at puts.at in omega (arith, at.1))
    by_template (Some template) e =
        let at : Contains template.slots puts.slot = rw e at puts.at in
        omega (arith, is t template e, one_of_sum (size_of_slot query size template) template.slots puts.slot at, slot_above query size template puts.slot u puts.fills)
