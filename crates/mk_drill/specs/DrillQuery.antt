-- The query of the drill: a benzene with one substituent or more, each of them chlorine, bromine or
-- methoxy.
--     query_text                   its RGfile
--     IsDrillQuery query           the query is the one of that file
use Rattle.std.specs.Prelude.{ℕ, List, [], ◌∷◌, ◌++◌, codes}
use Rattle.mk_text.specs.Lines.{lines_of, text_of}
use Rattle.mk_model.specs.Queries.{QueryView}
use Rattle.mk_rgfile.specs.declared.raw_query.RawQuery.{RawQuery}
use Rattle.mk_rgfile.specs.QueryFile.{IsQueryFile}
use Rattle.mk_query.specs.Compiled.{IsQueryOf}

-- ---- the file

-- the head of the file, and the root: a benzene with a site of group 1
abbrev pub root_lines : List (List ℕ)
root_lines =
    codes "$MDL  REV  1"
    ∷ codes "$MOL"
    ∷ codes "$HDR"
    ∷ codes "substituted benzene"
    ∷ codes "  example"
    ∷ codes ""
    ∷ codes "$END HDR"
    ∷ codes "$CTAB"
    ∷ codes "  7  7  0  0  0  0            999 V2000"
    ∷ codes "    0.0000    1.4000    0.0000 C   0  0"
    ∷ codes "    1.2124    0.7000    0.0000 C   0  0"
    ∷ codes "    1.2124   -0.7000    0.0000 C   0  0"
    ∷ codes "    0.0000   -1.4000    0.0000 C   0  0"
    ∷ codes "   -1.2124   -0.7000    0.0000 C   0  0"
    ∷ codes "   -1.2124    0.7000    0.0000 C   0  0"
    ∷ codes "    0.0000    2.8000    0.0000 R#  0  0"
    ∷ codes "  1  2  2  0"
    ∷ codes "  2  3  1  0"
    ∷ codes "  3  4  2  0"
    ∷ codes "  4  5  1  0"
    ∷ codes "  5  6  2  0"
    ∷ codes "  1  6  1  0"
    ∷ codes "  1  7  1  0"
    ∷ codes "M  LOG  1   1   0   1"
    ∷ codes "M  RGP  1   7   1"
    ∷ codes "M  END"
    ∷ codes "$END CTAB"
    ∷ []

-- group 1 and its three members, and the end of the file
abbrev pub group_lines : List (List ℕ)
group_lines =
    codes "$RGP"
    ∷ codes "  1"
    ∷ codes "$CTAB"
    ∷ codes "  1  0  0  0  0  0            999 V2000"
    ∷ codes "    0.0000    0.0000    0.0000 Cl  0  0"
    ∷ codes "M  APO  1   1   1"
    ∷ codes "M  END"
    ∷ codes "$END CTAB"
    ∷ codes "$CTAB"
    ∷ codes "  1  0  0  0  0  0            999 V2000"
    ∷ codes "    0.0000    0.0000    0.0000 Br  0  0"
    ∷ codes "M  APO  1   1   1"
    ∷ codes "M  END"
    ∷ codes "$END CTAB"
    ∷ codes "$CTAB"
    ∷ codes "  2  1  0  0  0  0            999 V2000"
    ∷ codes "    0.0000    0.0000    0.0000 O   0  0"
    ∷ codes "    1.4000    0.0000    0.0000 C   0  0"
    ∷ codes "  1  2  1  0"
    ∷ codes "M  APO  1   1   1"
    ∷ codes "M  END"
    ∷ codes "$END CTAB"
    ∷ codes "$END RGP"
    ∷ codes "$END MOL"
    ∷ []

-- the text of the drill's query file: each line with LF behind it
unfoldable pub query_text : List ℕ
query_text = text_of (root_lines ++ group_lines)

-- ---- the query

-- the query is the one of the drill's query file
pub record IsDrillQuery (query : QueryView) : Type 0 where
  pub raw : RawQuery
  pub read : IsQueryFile (lines_of query_text) raw
  pub meant : IsQueryOf raw query
