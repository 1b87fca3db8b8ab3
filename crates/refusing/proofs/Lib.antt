mod GateSteps
