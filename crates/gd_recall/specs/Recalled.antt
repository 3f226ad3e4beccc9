-- What a `Recall` is in contracts.
use Rattle.gd_base.specs.Payloads.Lists.{Lists}

pub record Recalled : Type 0 where
  pub lists : Lists
