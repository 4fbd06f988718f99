-- What the program needs of a config before it sends.
use Rattle.sms_files.specs.declared.config.Config.{Config}
use Rattle.sms_files.specs.declared.config.setup.Setup.{Setup}

abbrev pub setup_in : Config → Setup
setup_in c = record {
  files = c.files;
  host = c.connection.host;
  port = c.connection.port;
  bind_status = c.answers.bind_status;
  answers = c.answers.texts;
}
