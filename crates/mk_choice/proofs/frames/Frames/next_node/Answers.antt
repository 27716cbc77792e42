use Rattle.std.proofs.Common.{◌≡◌, ◌++◌, ◌∷◌, [], ℕ, List, refl, sym, ap, subst, ◌∙◌, rules}
use Rattle.std.specs.Prelude.{Bool}
use Rattle.mk_text.specs.Rising.{IsLeast}
use Rattle.mk_text.proofs.ForCallers.{not_below_itself}
use Rattle.mk_model.specs.Nodes.{BeginsCode}
use Rattle.mk_choice.specs.declared.frames.Frames.{Frames}
use Rattle.mk_choice.specs.Frames.{from_at, from_of, numbers_of}
use Rattle.mk_choice.proofs.FrontLemmas.{least_itself, least_through, same_here}
use Rattle.mk_choice.proofs.SeekLemmas.{frames_begin, went_back, went_none, went_onward}
use Rattle.mk_choice.proofs.frames.Frames.next_node.Goals as goal

pub returns-then-self-clause-found : goal.returns-then-self-clause-found
returns-then-self-clause-found c = λ _.
    let f = c.args.self.now in
    rw c.if-self.true (least_itself (BeginsCode c.args.query.now) (numbers_of f) (frames_begin c.args.query.now c.args.most.now f c.requires))

pub back-init : goal.back-init
back-init c =
    let f = c.args.self.now in
    record { are = c.requires; once = c.if-self.false; same = same_here (BeginsCode c.args.query.now) (from_of f); up = not_below_itself (from_of f) }

pub overflow_add-self : goal.overflow_add-self
overflow_add-self c = (let below = c.if-has_above.ensures.within refl in search (rules, below))

pub returns-then-has_above-clause-found : goal.returns-then-has_above-clause-found
returns-then-has_above-clause-found c = λ _.
    let b = c.back.self in
    let new = c.down.new.self in
    let at : numbers_of new ≡ from_of b = c.down.ensures.numbers ∙ sym (ap (λ (once : Bool). from_at once (numbers_of b) b.above) c.back.invariant.once) in
    least_through (BeginsCode c.args.query.now) (from_of c.args.self.now) (from_of b) (numbers_of new) c.back.invariant.same
    (subst (λ (xs : List ℕ). IsLeast xs (BeginsCode c.args.query.now) (numbers_of new)) at
    (least_itself (BeginsCode c.args.query.now) (numbers_of new) (frames_begin c.args.query.now c.args.most.now new c.down.ensures.frames)))

pub returns-then-self-eq0-clause-none : goal.returns-then-self-eq0-clause-none
returns-then-self-eq0-clause-none c = λ _.
    went_none c.args.query.now c.args.most.now c.args.self.now c.back.self c.back.invariant (c.if-has_above.ensures.none refl) c.if-self-eq0.true

pub returns-then-onward-clause-found : goal.returns-then-onward-clause-found
returns-then-onward-clause-found c = λ _.
    went_onward c.args.query.now c.args.most.now c.args.self.now c.back.self c.back.invariant
    (c.if-has_above.ensures.none refl) c.onward.new.self c.if-onward.ensures.frames
    (c.if-onward.ensures.numbers refl)

pub back-preserved : goal.back-preserved
back-preserved c =
    let still : c.onward.new.self ≡ c.back.self = c.if-onward.ensures.still refl in
    let mid = c.up-self.new.self in
    went_back c.args.query.now c.args.most.now c.args.self.now c.back.self c.back.invariant (c.if-has_above.ensures.none refl) mid c.up-self.result c.up-self.ensures.frames
    (subst (λ (f : Frames). numbers_of f ≡ numbers_of mid ++ c.up-self.result ∷ []) still c.up-self.ensures.numbers)
    (subst (λ (f : Frames). mid.once ≡ f.once) still c.up-self.ensures.once)
