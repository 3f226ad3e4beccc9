-- What a platform is in contracts: its setup and its view.
use Rattle.gd_base.specs.declared.setup.Setup.{Setup}
use Rattle.gd_base.specs.Histories.View.{View}
use Rattle.gd_image.specs.declared.platform.Platform.{Platform}
use Rattle.gd_machine.specs.Words.{machine_setup, machine_view}

abbrev pub platform_setup : Platform → Setup
platform_setup p = machine_setup p.machine

abbrev pub platform_view : Platform → View
platform_view p = machine_view p.machine
