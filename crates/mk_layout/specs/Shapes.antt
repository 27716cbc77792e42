-- For the code: what a slot becomes, as the code keeps it.
--     seen shape       the piece that it stands for
use Rattle.mk_model.specs.Pieces.{Piece}
use Rattle.mk_model.specs.Pieces.Piece.{Copies, Member, Hydrogens, Nothing}
use Rattle.mk_layout.specs.declared.part.Shape.{Shape}
use Rattle.mk_layout.specs.declared.part.Shape.TheVariants.{Copies as CopiesKept, Member as MemberKept, Hydrogens as HydrogensKept, Nothing as NothingKept}

-- the piece that a shape stands for
abbrev pub seen : Shape → Piece
seen (CopiesKept n) = Copies n
seen (MemberKept part) = Member part
seen (HydrogensKept n) = Hydrogens n
seen NothingKept = Nothing
