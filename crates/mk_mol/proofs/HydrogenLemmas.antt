-- The hydrogens that are added, and their bonds.
use Rattle.std.proofs.Common.{◌≡◌, ◌≤◌, ◌<◌, ◌+◌, ◌-◌, ◌*◌, ℕ, true, false, cond, List, [], ◌∷◌, ◌++◌, refl, ap, sym, ◌∙◌, length, get_or, take, replicate, arith}
use Rattle.std.specs.Prelude.{All, map, if◌then◌else◌}
use Rattle.std.specs.List.{filter}
use Rattle.std.proofs.lemmas.List.{append-nil, append_assoc, length-append, length-replicate, length_push, get_or_at, replicate_more, replicate-append-replicate, take_more}
use Rattle.std.proofs.lemmas.List.Elements.{All-map}
use Rattle.mk_model.specs.declared.edge.Edge.{Edge}
use Rattle.mk_model.specs.declared.molecule.Atom.{Atom}
use Rattle.mk_model.specs.Edges.{numbers_at, numbers_from, touches}
use Rattle.mk_mol.specs.Filled.{hydrogen_atom, hydrogen_bonds, owners, kinds_at}
use Rattle.mk_mol.specs.Putting.{kinds_of, no_edge}

-- ---- lists of hydrogens

-- as many bonds as hydrogens
pub length-hydrogen_bonds : (n : ℕ) (os : List ℕ) → length (hydrogen_bonds n os) ≡ length os
length-hydrogen_bonds n [] = refl
length-hydrogen_bonds n (o ∷ os) = omega (arith, length-hydrogen_bonds (n + 1) os)

-- the bonds of some hydrogens and of those behind them
pub hydrogen_bonds-append : (n : ℕ) (os ps : List ℕ) → hydrogen_bonds n (os ++ ps) ≡ hydrogen_bonds n os ++ hydrogen_bonds (n + length os) ps
hydrogen_bonds-append n [] ps = let none : n + 0 ≡ n = omega arith in rw none refl
hydrogen_bonds-append n (o ∷ os) ps =
    let next : n + length (o ∷ os) ≡ n + 1 + length os = omega arith in
    rw next (ap (λ (l : List Edge). record { first = o; second = n; kind = 1 } ∷ l) (hydrogen_bonds-append (n + 1) os ps))

-- the owners of the hydrogens of one atom more
pub owners-push : (n : ℕ) (gains : List ℕ) (gained : ℕ) → owners n (gains ++ gained ∷ []) ≡ owners n gains ++ replicate gained (n + length gains)
owners-push n [] gained = let here : n + 0 ≡ n = omega arith in rw here (append-nil (replicate gained n))
owners-push n (g ∷ gains) gained =
    let next : n + length (g ∷ gains) ≡ n + 1 + length gains = omega arith in
    rw (next, owners-push (n + 1) gains gained) (sym (append_assoc (replicate g n) (owners (n + 1) gains) (replicate gained (n + 1 + length gains))))

-- ---- loops

-- one hydrogen more
pub hydrogens-more : (atoms now next : List Atom) (k : ℕ) → now ≡ atoms ++ replicate k hydrogen_atom → next ≡ now ++ hydrogen_atom ∷ [] → next ≡ atoms ++ replicate (k + 1) hydrogen_atom
hydrogens-more atoms now next k are is =
    is ∙ ap (λ (l : List Atom). l ++ hydrogen_atom ∷ []) are ∙ append_assoc atoms (replicate k hydrogen_atom) (hydrogen_atom ∷ []) ∙ ap (λ (l : List Atom). atoms ++ l) (replicate_more k hydrogen_atom)

-- and its bond
pub bonds-more : (edges now next : List Edge) (n k owner m : ℕ) → now ≡ edges ++ hydrogen_bonds n (replicate k owner)
    → m ≡ n + k → next ≡ now ++ record { first = owner; second = m; kind = 1 } ∷ []
    → next ≡ edges ++ hydrogen_bonds n (replicate (k + 1) owner)
bonds-more edges now next n k owner m are number is =
    let last : record { first = owner; second = m; kind = 1 } ∷ [] ≡ hydrogen_bonds (n + length (replicate k owner)) (owner ∷ []) =
    ap (λ (j : ℕ). hydrogen_bonds j (owner ∷ [])) (number ∙ ap (λ (j : ℕ). n + j) (sym (length-replicate k owner))) in
    is ∙ ap (λ (l : List Edge). l ++ record { first = owner; second = m; kind = 1 } ∷ []) are
    ∙ append_assoc edges (hydrogen_bonds n (replicate k owner)) (record { first = owner; second = m; kind = 1 } ∷ [])
    ∙ ap (λ (l : List Edge). edges ++ (hydrogen_bonds n (replicate k owner) ++ l)) last
    ∙ ap (λ (l : List Edge). edges ++ l) (sym (hydrogen_bonds-append n (replicate k owner) (owner ∷ [])) ∙ ap (hydrogen_bonds n) (replicate_more k owner))

-- the last hydrogen's number
pub next_number : (atoms next : List Atom) (k m : ℕ) → next ≡ atoms ++ replicate (k + 1) hydrogen_atom → m ≡ length next → m ≡ length atoms + 1 + k
next_number atoms next k m are is = omega (arith, is, ap length are, length-append atoms (replicate (k + 1) hydrogen_atom), length-replicate (k + 1) hydrogen_atom)

-- the number of the first hydrogen of the next atom
pub first_number : (atoms now : List Atom) (os : List ℕ) → now ≡ atoms ++ replicate (length os) hydrogen_atom → length now + 1 ≡ length atoms + 1 + length os
first_number atoms now os are = omega (arith, ap length are, length-append atoms (replicate (length os) hydrogen_atom), length-replicate (length os) hydrogen_atom)

-- the atoms are still few
pub still_few : (now next : List Atom) (first i gained : ℕ) → next ≡ now ++ replicate gained hydrogen_atom → gained < 256 → length now ≤ first + 256 * i → length next ≤ first + 256 * (i + 1)
still_few now next first i gained is small few = omega (arith, ap length is, length-append now (replicate gained hydrogen_atom), length-replicate gained hydrogen_atom, few, small)

-- the hydrogens of one atom more
pub atoms-more : (atoms now next : List Atom) (gains : List ℕ) (i : ℕ) → i < length gains
    → now ≡ atoms ++ replicate (length (owners 1 (take i gains))) hydrogen_atom
    → next ≡ now ++ replicate (get_or gains i 0) hydrogen_atom
    → next ≡ atoms ++ replicate (length (owners 1 (take (i + 1) gains))) hydrogen_atom
atoms-more atoms now next gains i below are is =
    let os = owners 1 (take i gains) in
    let many : length (owners 1 (take (i + 1) gains)) ≡ length os + get_or gains i 0 =
    ap (λ (l : List ℕ). length (owners 1 l)) (take_more gains i 0 below)
    ∙ ap length (owners-push 1 (take i gains) (get_or gains i 0))
    ∙ length-append os (replicate (get_or gains i 0) (1 + length (take i gains)))
    ∙ ap (λ (j : ℕ). length os + j) (length-replicate (get_or gains i 0) (1 + length (take i gains))) in
    rw many
    (is ∙ ap (λ (l : List Atom). l ++ replicate (get_or gains i 0) hydrogen_atom) are ∙ append_assoc atoms (replicate (length os) hydrogen_atom) (replicate (get_or gains i 0) hydrogen_atom)
    ∙ ap (λ (l : List Atom). atoms ++ l) (replicate-append-replicate (length os) (get_or gains i 0) hydrogen_atom))

-- and their bonds
pub owned-more : (edges now next : List Edge) (n : ℕ) (gains : List ℕ) (i m : ℕ) → i < length gains
    → length (take i gains) ≡ i → m ≡ n + length (owners 1 (take i gains))
    → now ≡ edges ++ hydrogen_bonds n (owners 1 (take i gains))
    → next ≡ now ++ hydrogen_bonds m (replicate (get_or gains i 0) (i + 1))
    → next ≡ edges ++ hydrogen_bonds n (owners 1 (take (i + 1) gains))
owned-more edges now next n gains i m below size number are is =
    let os = owners 1 (take i gains) in
    let owner : 1 + length (take i gains) ≡ i + 1 = omega arith in
    let all : owners 1 (take (i + 1) gains) ≡ os ++ replicate (get_or gains i 0) (i + 1) =
    ap (owners 1) (take_more gains i 0 below) ∙ owners-push 1 (take i gains) (get_or gains i 0) ∙ ap (λ (j : ℕ). os ++ replicate (get_or gains i 0) j) owner in
    rw (all, hydrogen_bonds-append n os (replicate (get_or gains i 0) (i + 1)), ← number)
    (is ∙ ap (λ (l : List Edge). l ++ hydrogen_bonds m (replicate (get_or gains i 0) (i + 1))) are ∙ append_assoc edges (hydrogen_bonds n os) (hydrogen_bonds m (replicate (get_or gains i 0) (i + 1))))

-- ---- types of bonds

-- the types of the bonds that are numbered for an atom, where the first of the bonds has the number j + 1 and j others stand before
kinds_from : (front bonds : List Edge) (n : ℕ) → map (λ k. (get_or (front ++ bonds) (k - 1) no_edge).kind)
    (numbers_from (length front + 1) bonds n) ≡ map (λ edge. edge.kind) (filter (touches n) bonds)
kinds_from front [] n = refl
kinds_from front (edge ∷ bonds) n =
    let f : ℕ → ℕ = λ k. (get_or (front ++ edge ∷ bonds) (k - 1) no_edge).kind in
    let more = kinds_from (front ++ edge ∷ []) bonds n in
    let many : length (front ++ edge ∷ []) + 1 ≡ length front + 1 + 1 = omega (arith, length_push front edge) in
    let joined : (front ++ edge ∷ []) ++ bonds ≡ front ++ edge ∷ bonds = append_assoc front (edge ∷ []) bonds in
    let rest : map f (numbers_from (length front + 1 + 1) bonds n) ≡ map (λ e. e.kind) (filter (touches n) bonds) = rw (many, joined) at more in
    let place : length front + 1 - 1 ≡ length front = omega arith in
    let here : f (length front + 1) ≡ edge.kind = rw place (ap (λ (e : Edge). e.kind) (get_or_at front edge bonds no_edge (length front) refl)) in
    elim (touches n edge) as (λ b. map f (if b then (length front + 1) ∷ numbers_from (length front + 1 + 1) bonds
    n else numbers_from (length front + 1 + 1) bonds n) ≡ map (λ e. e.kind)
    (cond b (edge ∷ filter (touches n) bonds) (filter (touches n) bonds)))
    [ true ↦ rw (here, rest) refl | false ↦ rest ]

-- the types of the bonds that are numbered for an atom are those of its bonds
pub kinds_are : (bonds : List Edge) (n : ℕ) → kinds_of bonds (numbers_at bonds n) ≡ kinds_at bonds n
kinds_are bonds n = kinds_from [] bonds n

-- each of them is of a known type
pub All-kinds_of : (edges : List Edge) (numbers : List ℕ) → All (λ edge. (1 ≤ edge.kind) × (edge.kind ≤ 4)) edges
    → All (λ k. (1 ≤ k) × (k ≤ length edges)) numbers → All (λ kind. (1 ≤ kind) × (kind ≤ 4)) (kinds_of edges numbers)
All-kinds_of edges numbers known within =
    All-map (λ (kind : ℕ). (1 ≤ kind) × (kind ≤ 4)) (λ (k : ℕ). (get_or edges (k - 1) no_edge).kind) numbers
    (λ i d below. let here = within i d below in known (get_or numbers i d - 1) no_edge (omega (arith, here.0, here.1)))
