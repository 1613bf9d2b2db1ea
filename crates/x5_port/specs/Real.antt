-- Real files and sinks before their first call.
use Rattle.std.specs.Prelude.{◌≡◌, [], None}
use Rattle.x5_port.specs.Names.{names_in}
use Rattle.x5_port.specs.declared.real.RealFiles.{RealFiles}
use Rattle.x5_port.specs.declared.real.RealSink.{RealSink}

-- no call and no fault yet
pub record IsUntouched {R : Type 0} (files : RealFiles R) : Type 0 where
  pub no_faults : files.faults ≡ 0
  pub none_failed : files.failed ≡ None
  pub none_asked : names_in files.asked.items ≡ []

-- no fault yet
pub record IsUnwritten {W : Type 0} (sink : RealSink W) : Type 0 where
  pub no_faults : sink.faults ≡ 0
