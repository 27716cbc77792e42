use Rattle.std.proofs.Common.{◌≡◌, ◌<◌, [], length, take, refl, arith}
use Rattle.std.proofs.lemmas.List.{drop_all, length-drop}
use Rattle.mk_model.proofs.ForCallers.{below_more, below_next}
use Rattle.mk_choice.specs.Frames.{numbers_of, open_of}
use Rattle.mk_choice.proofs.MoveLemmas.{allowed_valid, counts_within, open_none, settled_dead, settled_open, settled_same, valid_allowed}
use Rattle.mk_choice.proofs.frames.Frames.settle.Goals as goal

-- ---- where none can be completed

pub returns-then-is_dead-clause-on : goal.returns-then-is_dead-clause-on
returns-then-is_dead-clause-on c = rw c.requires.passed (below_more (numbers_of c.args.self.now) 4294967296 [])

pub returns-then-is_dead-clause-moved : goal.returns-then-is_dead-clause-moved
returns-then-is_dead-clause-moved c = λ _.
    let f = c.args.self.now in
    let is = c.requires.frames.stands in
    rw c.requires.passed
    (settled_dead c.args.query.now c.args.most.now (numbers_of f) (take f.depth f.slots) (open_of f) f.counts f.ahead is 4294967295
    (c.if-is_dead.ensures refl))

-- ---- where slots are open

pub returns-then-self-len-clause-on : goal.returns-then-self-len-clause-on
returns-then-self-len-clause-on c = rw c.requires.passed (below_more (numbers_of c.args.self.now) 1 [])

pub returns-then-self-len-clause-moved : goal.returns-then-self-len-clause-moved
returns-then-self-len-clause-moved c = λ _.
    let f = c.args.self.now in
    let is = c.requires.frames.stands in
    let some : 0 < length (open_of f) = omega (arith, length-drop f.first f.waiting, c.if-self-len.true) in
    rw c.requires.passed
    (settled_open c.args.query.now c.args.most.now (numbers_of f) (take f.depth f.slots) (open_of f) f.counts f.ahead is
    (open_none c.args.query.now c.args.most.now (numbers_of f) (take f.depth f.slots) (open_of f) f.counts f.ahead is some))

-- ---- where none is

pub allowed-found-requires-clause-few : goal.allowed-found-requires-clause-few
allowed-found-requires-clause-few c = (counts_within c.args.query.now c.args.most.now c.args.self.now c.requires.frames 512 c.requires.frames.within).few

pub returns-clause-on : goal.returns-clause-on
returns-clause-on c = rw c.requires.passed (below_more (numbers_of c.args.self.now) 1 [])

pub returns-clause-valid : goal.returns-clause-valid
returns-clause-valid c = λ yes.
    let f = c.args.self.now in
    let is = c.requires.frames.stands in
    let none : open_of f ≡ [] = drop_all f.first f.waiting (omega (arith, c.if-self-len.false)) in
    allowed_valid c.args.query.now c.args.most.now (numbers_of f) (take f.depth f.slots) (open_of f) f.counts f.ahead is none (c.allowed-found.ensures.0 yes)

pub returns-clause-over : goal.returns-clause-over
returns-clause-over c = λ _. rw c.requires.passed (below_next (numbers_of c.args.self.now) 0 1 [] [] (omega arith))

pub returns-clause-behind : goal.returns-clause-behind
returns-clause-behind c = λ _.
    let f = c.args.self.now in
    rw c.requires.passed (settled_same c.args.query.now c.args.most.now (numbers_of f) (take f.depth f.slots) (open_of f) f.counts f.ahead c.requires.frames.stands)

pub returns-clause-moved : goal.returns-clause-moved
returns-clause-moved c = λ not_allowed.
    let f = c.args.self.now in
    let is = c.requires.frames.stands in
    let none : open_of f ≡ [] = drop_all f.first f.waiting (omega (arith, c.if-self-len.false)) in
    rw c.requires.passed
    (settled_open c.args.query.now c.args.most.now (numbers_of f) (take f.depth f.slots) (open_of f) f.counts f.ahead is
    (λ valid.
    let never = c.allowed-found.ensures.1 (valid_allowed c.args.query.now c.args.most.now (numbers_of f) (take f.depth f.slots) (open_of f) f.counts f.ahead is none valid) in
    absurd cc))
