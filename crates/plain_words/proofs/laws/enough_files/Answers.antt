use Rattle.plain_words.proofs.EnoughFiles.{enough_files}
use Rattle.plain_words.proofs.laws.enough_files.Goals as goal

pub returns : goal.returns
returns c = λ meta origin left told one other names texts first second. enough_files meta origin left told one other names texts first second
