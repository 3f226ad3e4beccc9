-- What a machine of a setup means by events and payloads.
use Rattle.gd_base.specs.declared.setup.Setup.{Setup}
use Rattle.gd_base.specs.Histories.View.{View}
use Rattle.gd_base.specs.Judging.Machine.{Machine}
use Rattle.gd_base.specs.Judging.Product.{machine}
use Rattle.gd_base.specs.Payloads.Loading.{spelled}
use Rattle.gd_games.specs.Digest.{digest_of}

abbrev pub the_machine : Setup → Machine View
the_machine setup = machine setup (digest_of setup) (spelled setup (digest_of setup))
