use Rattle.std.proofs.Common.{◌≡◌, ◌++◌, drop, map}
use Rattle.std.specs.List.{flat_map}
use Rattle.an_export.specs.Export.{manifest_line}
use Rattle.an_export.proofs.shown.push_rows.Given as goal

-- what was written, and the lines of the manifests that are left
abbrev pub invariant-loop-row : goal.invariant-loop-row
invariant-loop-row l =
    l.out.items ++ flat_map manifest_line (map (λ row. row.now) (drop l.row-index l.rows))
    ≡ l.initial.out.items ++ flat_map manifest_line (map (λ row. row.now) l.rows)
