-- The links that name the atoms, noted one after the other.
use Rattle.std.proofs.Common.{◌≡◌, ◌≢◌, ◌≤◌, ◌<◌, ◌+◌, ◌-◌, ℕ, List, [], ◌∷◌, ◌++◌, refl, ap, sym, subst, ◌∙◌, length, get_or, replicate, set, take, arith, inl, inr}
use Rattle.std.specs.Prelude.{◌⊎◌, ◌==◌}
use Rattle.std.specs.List.{filter}
use Rattle.std.proofs.lemmas.Bool.{cases_eq, eq-eqb, ne_eqb}
use Rattle.std.proofs.lemmas.List.{append-nil, append_assoc, get_or-replicate, get_or-set_same, get_or-set_other, get_or_default, length-replicate, length-set, take_all, take_more}
use Rattle.std.proofs.lemmas.List.Elements.{filter-append}
use Rattle.mk_props.specs.declared.property.LinkEntry.{LinkEntry}
use Rattle.mk_props.specs.declared.property.Property.{Property}
use Rattle.mk_demands.specs.Numbers.{natural}
use Rattle.mk_query.specs.declared.linked_atoms.Linked.{Linked}
use Rattle.mk_query.specs.declared.linked_atoms.Linked.TheVariants as linked
use Rattle.mk_query.specs.Drawn.{links_for, links_of}
use Rattle.mk_query.specs.LinkMarks.{AreLinked, AreMoreLinks, HasMoreLinks, IsLinked}

-- the links among some that name atom x
abbrev pub named : List LinkEntry → ℕ → List LinkEntry
named links x = filter (λ (link : LinkEntry). natural link.atom == x) links

-- ---- all atoms

pub links-none : (list : List Linked) (more : ℕ → List LinkEntry) → ((x : ℕ) → more x ≡ []) → AreMoreLinks more list list
links-none list more none = record {
  size = refl;
  each = λ k d below links is. rw (none (k + 1), append-nil links) is;
}

-- more and then others
links_join : (more others : ℕ → List LinkEntry) (old mid new : List Linked) → AreMoreLinks more old mid → AreMoreLinks others mid new → AreMoreLinks (λ x. more x ++ others x) old new
links_join more others old mid new first second = record {
  size = second.size ∙ first.size;
  each = λ k d below links is.
      let inside : k < length mid = omega (arith, first.size) in
      let both : IsLinked ((links ++ more (k + 1)) ++ others (k + 1)) (get_or new k d) = second.each k d inside (links ++ more (k + 1)) (first.each k d below links is) in
      rw append_assoc at both;
}

-- the same, told in other words
links_same : (more others : ℕ → List LinkEntry) (old new : List Linked) → ((x : ℕ) → more x ≡ others x) → AreMoreLinks more old new → AreMoreLinks others old new
links_same more others old new same are = record {
  size = are.size;
  each = λ k d below links is. subst (λ (l : List LinkEntry). IsLinked (links ++ l) (get_or new k d)) (same (k + 1)) (are.each k d below links is);
}

-- one entry more
pub links-more : (links : List LinkEntry) (i : ℕ) (d : LinkEntry) (old mid new : List Linked) → i < length links
    → AreMoreLinks (named (take i links)) old mid → AreMoreLinks (named (get_or links i d ∷ [])) mid new
    → AreMoreLinks (named (take (i + 1) links)) old new
links-more links i d old mid new below first second =
    links_same (λ (x : ℕ). named (take i links) x ++ named (get_or links i d ∷ []) x) (named (take (i + 1) links)) old new
    (λ x. sym (ap (λ (l : List LinkEntry). named l x) (take_more links i d below) ∙ filter-append (λ (link : LinkEntry). natural link.atom == x) (take i links) (get_or links i d ∷ [])))
    (links_join (named (take i links)) (named (get_or links i d ∷ [])) old mid new first second)

pub links-all : (links : List LinkEntry) (i : ℕ) (old new : List Linked) → length links ≤ i → AreMoreLinks (named (take i links)) old new → AreMoreLinks (named links) old new
links-all links i old new all are = links_same (named (take i links)) (named links) old new (λ x. ap (λ (l : List LinkEntry). named l x) (take_all i links all)) are

-- one property more
links_for-push : (x : ℕ) (ps : List Property) (p : Property) → links_for x (ps ++ p ∷ []) ≡ links_for x ps ++ named (links_of p) x
links_for-push x [] p = append-nil (named (links_of p) x)
links_for-push x (q ∷ ps) p = ap (λ (l : List LinkEntry). named (links_of q) x ++ l) (links_for-push x ps p) ∙ sym (append_assoc (named (links_of q) x) (links_for x ps) (named (links_of p) x))

pub properties-more : (props : List Property) (i : ℕ) (p : Property) (old mid new : List Linked) → i < length props
    → p ≡ get_or props i p → AreMoreLinks (λ x. links_for x (take i props)) old mid
    → AreMoreLinks (named (links_of p)) mid new
    → AreMoreLinks (λ x. links_for x (take (i + 1) props)) old new
properties-more props i p old mid new below is first second =
    let next : take (i + 1) props ≡ take i props ++ p ∷ [] = take_more props i p below ∙ ap (λ (y : Property). take i props ++ y ∷ []) (sym is) in
    links_same (λ (x : ℕ). links_for x (take i props) ++ named (links_of p) x) (λ (x : ℕ). links_for x (take (i + 1) props)) old new
    (λ x. sym (ap (λ (l : List Property). links_for x l) next ∙ links_for-push x (take i props) p))
    (links_join (λ (x : ℕ). links_for x (take i props)) (named (links_of p)) old mid new first second)

-- behind the last property
pub properties-all : (props : List Property) (i n : ℕ) (old new : List Linked) → length props ≤ i
    → old ≡ replicate n linked.Nothing → AreMoreLinks (λ x. links_for x (take i props)) old new → AreLinked props new
properties-all props i n old new all none are k d below =
    let inside : k < length old = omega (arith, are.size) in
    let nothing : get_or old k d ≡ linked.Nothing = ap (λ (l : List Linked). get_or l k d) none
    ∙ get_or-replicate n k linked.Nothing d (omega (arith, ap length none, length-replicate n linked.Nothing)) in
    subst (λ (l : List Property). IsLinked (links_for (k + 1) l) (get_or new k d)) (take_all i props all) (are.each k d inside [] (rw nothing refl))

-- ---- one entry

-- of the atom that it names
pub link-put : (list : List Linked) (link : LinkEntry) (n : ℕ) (d new : Linked) → n ≡ natural link.atom → 1 ≤ n → n ≤ length list → HasMoreLinks (link ∷ []) (get_or list (n - 1) d) new
    → AreMoreLinks (named (link ∷ [])) list (set list (n - 1) new)
link-put list link n d new names least most more = record {
  size = length-set list (n - 1) new;
  each = λ k e below. by_place k e below (cases_eq k (n - 1));
}
  where
    by_place : (k : ℕ) (e : Linked) → k < length list → (k ≡ n - 1) ⊎ (k ≢ n - 1) → HasMoreLinks (named (link ∷ []) (k + 1)) (get_or list k e) (get_or (set list (n - 1) new) k e)
    by_place k e below (inl here) links is =
        let at : get_or (set list (n - 1) new) k e ≡ new = ap (λ (j : ℕ). get_or (set list (n - 1) new) j e) here ∙ get_or-set_same list (n - 1) new e (omega arith) in
        let old : get_or list k e ≡ get_or list (n - 1) d = ap (λ (j : ℕ). get_or list j e) here ∙ get_or_default list (n - 1) e d (omega arith) in
        let number : natural link.atom ≡ k + 1 = omega (arith, names, here, least) in
        let was : IsLinked links (get_or list (n - 1) d) = subst (IsLinked links) old is in
        rw (eq-eqb (natural link.atom) (k + 1) number, at) (more links was)
    by_place k e below (inr other) links is =
        let at : get_or (set list (n - 1) new) k e ≡ get_or list k e = get_or-set_other list (n - 1) k new e other in
        let number : natural link.atom ≢ k + 1 = λ same. other (omega (arith, names, same)) in
        rw (ne_eqb (natural link.atom) (k + 1) number, at, append-nil links) is

-- of no atom, where it names none
pub link-nowhere : (list : List Linked) (link : LinkEntry) (n : ℕ) → n ≡ natural link.atom → (1 ≤ n → length list < n) → AreMoreLinks (named (link ∷ [])) list list
link-nowhere list link n names outside = record {
  size = refl;
  each = λ k d below links is.
      let number : natural link.atom ≢ k + 1 = λ same. (let past : length list < n = outside (omega (arith, names, same)) in omega (arith, names, same, past, below)) in
      rw (ne_eqb (natural link.atom) (k + 1) number, append-nil links) is;
}
