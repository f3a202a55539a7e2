-- The code of the files of a disk, which the toolchain requires of a model (`ghost coded`).
use Rattle.std.specs.Coded.{Coded}
use Rattle.xet_io.specs.Disk.{Files}
use Rattle.xet_io.specs.Memory.{files_code as disk_code}

abbrev pub files_code : Coded Files
files_code = disk_code
