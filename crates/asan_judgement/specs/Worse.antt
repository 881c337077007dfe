-- What is worse to know of a process.
use Rattle.std.specs.Prelude.{◌≡◌, true, false}
use Rattle.asan_judgement.specs.declared.facts.Facts.{Facts}

-- the other facts are as bad or worse: where they have what speaks for a process, these have it,
-- and where they lack what speaks against it, these lack it
pub record AreWorse (facts others : Facts) : Type 0 where
  pub all_came : others.all_came ≡ true → facts.all_came ≡ true
  pub beside : others.beside ≡ true → facts.beside ≡ true
  pub none_missing : others.none_missing ≡ true → facts.none_missing ≡ true
  pub gone : others.gone ≡ true → facts.gone ≡ true
  pub checks : others.checks ≡ true → facts.checks ≡ true
  pub main : others.main ≡ true → facts.main ≡ true
  pub by_others : others.by_others ≡ true → facts.by_others ≡ true
  pub limit : others.limit ≡ false → facts.limit ≡ false
  pub own_call : others.own_call ≡ false → facts.own_call ≡ false
  pub findings_lost : others.findings_lost ≡ false → facts.findings_lost ≡ false
  pub leaks_missed : others.leaks_missed ≡ false → facts.leaks_missed ≡ false
  pub inside : others.inside ≡ false → facts.inside ≡ false
  pub contradiction : others.contradiction ≡ false → facts.contradiction ≡ false
  pub replaced : others.replaced ≡ false → facts.replaced ≡ false
  pub by_wait : facts.by_wait ≡ true → others.by_wait ≡ true
  pub by_timeout : facts.by_timeout ≡ true → others.by_timeout ≡ true
