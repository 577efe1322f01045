use Rattle.flow_shell.proofs.shell.serve_archive.Goals as goal

pub serve_reader-served-requires-after_bounds : goal.serve_reader-served-requires-after_bounds
serve_reader-served-requires-after_bounds g c κs within kept may = ∣ may ∣₁
