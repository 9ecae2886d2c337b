use Rattle.std.proofs.Common.{arith}
use Rattle.pri_reader.proofs.Exits.{handed_ok}
use Rattle.pri_reader.proofs.SourceFiles.{answered, found, refused_caused, refused_so, tokens_length}
use Rattle.pri_reader.proofs.files.read.Goals as goal

pub file-requires : goal.file-requires
file-requires c = rw (c.as_slice.ensures, c.in_ok-tokens.ensures.exact) (omega (arith, c.requires, tokens_length 0 0 c.args.bytes.now))

pub returns-clause-found : goal.returns-clause-found
returns-clause-found c = handed_ok _ _ _ (rw (c.as_slice.ensures, c.in_ok-tokens.ensures.exact) at c.file.ensures.read) (λ file h. found _ _ file h)

pub returns-clause-only : goal.returns-clause-only
returns-clause-only c = answered _ _ _ (rw (c.as_slice.ensures, c.in_ok-tokens.ensures.exact) at c.file.ensures.read) (rw (c.as_slice.ensures, c.in_ok-tokens.ensures.exact) at c.file.ensures.refused)

pub returns-clause-refused : goal.returns-clause-refused
returns-clause-refused c = refused_caused _ _ _ (rw (c.as_slice.ensures, c.in_ok-tokens.ensures.exact) at c.file.ensures.refused)

pub returns-clause-refuses : goal.returns-clause-refuses
returns-clause-refuses c = refused_so _ _ _ (rw (c.as_slice.ensures, c.in_ok-tokens.ensures.exact) at c.file.ensures.read) (rw (c.as_slice.ensures, c.in_ok-tokens.ensures.exact) at c.file.ensures.refused)
