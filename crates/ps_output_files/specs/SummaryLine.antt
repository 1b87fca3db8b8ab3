-- What is printed on standard output once a file is linked.
use Rattle.std.specs.Prelude.{ℕ, List, ◌++◌, codes, decimal}
use Rattle.ps_linkfile.specs.declared.summary.Summary.{Summary}
use Rattle.ps_writing.specs.declared.rows.Form.{Form}
use Rattle.ps_writing.specs.declared.rows.Form.TheVariants.{Lines, Json}

-- `segments S private words P blocks B` and a line end
abbrev pub summary_line : Summary → List ℕ
summary_line s =
    codes "segments " ++ (decimal s.segments ++ (codes " private words " ++ (decimal s.private_words
    ++ (codes " blocks " ++ (decimal s.blocks ++ codes "\n")))))

-- `{"segments":S,"private_words":P,"blocks":B}` and a line end
abbrev pub summary_json : Summary → List ℕ
summary_json s =
    codes "{\"segments\":" ++ (decimal s.segments ++ (codes ",\"private_words\":"
    ++ (decimal s.private_words ++ (codes ",\"blocks\":" ++ (decimal s.blocks ++ codes "}\n")))))

-- the summary as a line, or as a document
abbrev pub summary_text : Form → Summary → List ℕ
summary_text Lines s = summary_line s
summary_text Json s = summary_json s
