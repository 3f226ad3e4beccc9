use Rattle.std.proofs.Common.{rules}
use Rattle.gd_disk.proofs.Lab.{length-images_of}
use Rattle.gd_disk.proofs.memory_lab.MemoryLabLabDisk.power_on.Goals as goal

pub returns-clause-fails : goal.returns-clause-fails
returns-clause-fails c = search (rules, length-images_of)
