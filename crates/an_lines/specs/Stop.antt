-- The line that ends a run, as it is printed.
use Rattle.std.specs.Prelude.{ℕ, List, ◌++◌, codes, decimal}
use Rattle.an_code.specs.Code.{code_text}
use Rattle.an_lines.specs.declared.stop.Stop.{Stop}

abbrev pub refusal_line : Stop → List ℕ
refusal_line stop =
    codes "line " ++ (decimal stop.line ++ (codes " refused: " ++ (code_text stop.why
    ++ codes "\n")))
