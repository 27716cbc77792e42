-- The frames in which a session answers.
--     How                       done, refused, unread or memory
--     frame how text            a line that says how many bytes follow and how it went, and these
--     ready_text t              the first line of a session over these tables
use Rattle.std.specs.Prelude.{ℕ, List, ◌++◌, length, codes, decimal}
use Rattle.mk_outside.specs.declared.tables.Tables.{Tables}
use Rattle.mk_session.specs.declared.sizes.Sizes.{Sizes}
use Rattle.mk_session.specs.Sizes.{sizes_of}

-- how a line went
pub data How : Type 0 where
  Done : How
  Refused : How
  Unread : How  -- a file couldn't be read, and nothing changed
  NoMemory : How  -- memory was wanting, and nothing changed

-- its word, with the blank in front of it and the LF behind it
abbrev pub how_text : How → List ℕ
how_text Done = codes " done\n"
how_text Refused = codes " refused\n"
how_text Unread = codes " unread\n"
how_text NoMemory = codes " memory\n"

-- `answer BYTES HOW` and LF, and exactly BYTES bytes
abbrev pub frame : How → List ℕ → List ℕ
frame how text = codes "answer " ++ (decimal (length text) ++ (how_text how ++ text))

-- `ready records R queries Q cursors C next N M` and LF: how much is held, and the numbers that come
-- next
abbrev pub ready_line : Sizes → List ℕ
ready_line sizes =
    codes "ready records " ++ (decimal sizes.records
    ++ (codes " queries " ++ (decimal sizes.queries
    ++ (codes " cursors " ++ (decimal sizes.cursors
    ++ (codes " next " ++ (decimal sizes.next_record
    ++ (codes " " ++ (decimal sizes.next_cursor ++ codes "\n")))))))))

-- the first line of a session over these tables
abbrev pub ready_text : Tables → List ℕ
ready_text t = ready_line (sizes_of t)
