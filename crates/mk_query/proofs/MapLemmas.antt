-- A list that is made of another, item by item.
--     mapped_more     one item more
--     mapped_all      all of them
use Rattle.std.proofs.Common.{◌≡◌, ◌≤◌, ◌<◌, ◌+◌, ℕ, List, [], ◌∷◌, ◌++◌, ap, sym, ◌∙◌, length, get_or, map, take, take_all}
use Rattle.std.proofs.lemmas.List.{map-append, take_more}

pub mapped_more : {X Y : Type 0} (f : X → Y) (xs : List X) (i : ℕ) (d : X) (ys : List Y) (y : Y)
    → i < length xs → y ≡ f (get_or xs i d) → ys ≡ map f (take i xs) → ys ++ y ∷ [] ≡ map f (take (i + 1) xs)
mapped_more f xs i d ys y below is before =
    ap (λ front. front ++ y ∷ []) before ∙ ap (λ last. map f (take i xs) ++ last ∷ []) is
    ∙ sym (map-append f (take i xs) (get_or xs i d ∷ [])) ∙ ap (map f) (sym (take_more xs i d below))

pub mapped_all : {X Y : Type 0} (f : X → Y) (xs : List X) (i : ℕ) (ys : List Y) → length xs ≤ i → ys ≡ map f (take i xs) → ys ≡ map f xs
mapped_all f xs i ys all so = so ∙ ap (map f) (take_all i xs all)
